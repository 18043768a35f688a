-- The names that the entries of a netlist speak of have a byte.
use Rattle.std.proofs.Common.{◌≡◌, ◌≢◌, ℕ, suc, ◌+◌, List, [], ◌∷◌, Option, All, refl, sym, ap, ◌∙◌}
use Rattle.std.proofs.lemmas.List.Elements.{All-nil, All-cons, All-tail, All-head, All-push}
use Rattle.token_fronts.specs.Tokens.{numbered}
use Rattle.token_texts.specs.Spans.{text_at}
use Rattle.token_texts.specs.declared.spans.Span.{Span}
use Rattle.verilog_netlist.specs.Tokens.{Lexeme, is_bad}
use Rattle.verilog_netlist.specs.Grammar.{Tok, Is, added, Rule, Listed, one, and_one, Many, none, more, Maybe, left_out, there, IsName, name, MaybeWire, no_wire, wire, IsRange, range, MaybeRange, no_range, with_range, AreDeclared, declared, IsAnsi, ansi, IsHeader, names, directions, IsPorts, ports, IsExpr, AreExprs, whole, bit, part, constant, in_braces, one_expr, and_expr, IsConnection, connection, IsInstance, instance, IsItem, directed, wires, instances, IsModule, is_module}
use Rattle.verilog_netlist.specs.Namespaces.{name_of}
use Rattle.verilog_netlist.specs.Netlists.{SaysNetlist}
use Rattle.verilog_netlist.specs.declared.kinds.Kind.TheVariants as kind
use Rattle.verilog_netlist.specs.declared.entries.Direction.{Direction}
use Rattle.verilog_netlist.specs.declared.entries.Decl.{Decl}
use Rattle.verilog_netlist.specs.declared.entries.Decl.TheVariants as decl
use Rattle.verilog_netlist.specs.declared.entries.Range.{Range}
use Rattle.verilog_netlist.specs.declared.entries.Entry.{Entry}
use Rattle.verilog_netlist.specs.declared.entries.Entry.TheVariants as entry
use Rattle.verilog_netlist.proofs.TokenTexts.{HasByte, tokens_have_bytes}

module _ (bytes : List ℕ) where
  -- the name of an entry has a byte
  abbrev pub IsNamed : Entry → Type 0
  IsNamed said = text_at bytes (name_of said) ≢ []

  abbrev HasText : Tok → Type 0
  HasText token = HasByte bytes token.text

  -- behind a line of the grammar: each entry up to there is named, and each token of the rest has its text
  record AreNamed (after : List Entry) (rest : List Tok) : Type 0 where
    entries : All IsNamed after
    tokens : All HasText rest

  -- a line of the grammar keeps that
  abbrev Names : Rule → Type 0
  Names Line = (from rest : List Tok) (before after : List Entry) → Line from before after rest → All HasText from → All IsNamed before
      → AreNamed after rest

  text_of_name : (id : Tok) → Is kind.Name id → HasText id → text_at bytes id.text.at ≢ []
  text_of_name id is has = has (ap is_bad is)

  behind : (token : Tok) (rest : List Tok) → All HasText (token ∷ rest) → All HasText rest
  behind token rest all = All-tail HasText token rest all

  -- an entry more, and the tokens behind it
  one_entry : (says : Span → Entry) → ((at : Span) → name_of (says at) ≡ at) → (id : Tok) (rest : List Tok) (before : List Entry)
      → Is kind.Name id → All HasText (id ∷ rest) → All IsNamed before → All IsNamed (added before (says id.text.at))
  one_entry says of id rest before is tokens entries =
      All-push IsNamed before (says id.text.at) entries
      (λ empty. text_of_name id is (All-head HasText id rest tokens) (ap (text_at bytes) (sym (of id.text.at)) ∙ empty))

  listed : (Line : Rule) → Names Line → Names (Listed Line)
  listed Line line from rest before after (one is) tokens entries = line from rest before after is tokens entries
  listed Line line from rest before after (and_one {middle = middle} {between = between} {comma = comma} is comma_is next) tokens entries =
      let so_far = listed Line line from (comma ∷ middle) before between is tokens entries in
      line middle rest between after next (behind comma middle so_far.tokens) so_far.entries

  many : (Line : Rule) → Names Line → Names (Many Line)
  many Line line from rest before after none tokens entries = record { entries = entries; tokens = tokens }
  many Line line from rest before after (more {middle = middle} {between = between} is next) tokens entries =
      let so_far = many Line line from middle before between is tokens entries in
      line middle rest between after next so_far.tokens so_far.entries

  maybe : (Line : Rule) → Names Line → Names (Maybe Line)
  maybe Line line from rest before after left_out tokens entries = record { entries = entries; tokens = tokens }
  maybe Line line from rest before after (there is) tokens entries = line from rest before after is tokens entries

  name_line : (says : Span → Entry) → ((at : Span) → name_of (says at) ≡ at) → Names (IsName says)
  name_line says of from rest before after (name {id = id} is) tokens entries =
      record { entries = one_entry says of id rest before is tokens entries; tokens = behind id rest tokens }

  wire_behind : (from rest : List Tok) → MaybeWire from rest → All HasText from → All HasText rest
  wire_behind from rest no_wire tokens = tokens
  wire_behind from rest (wire {word = word} is) tokens = behind word rest tokens

  range_behind : (from rest : List Tok) (bounds : Range) → IsRange from bounds rest → All HasText from → All HasText rest
  range_behind from rest bounds (range {begin = a} {first = b} {colon = c} {second = d} {close = e} _ _ _ _ _) tokens =
      behind e rest (behind d (e ∷ rest) (behind c (d ∷ e ∷ rest) (behind b (c ∷ d ∷ e ∷ rest) (behind a (b ∷ c ∷ d ∷ e ∷ rest) tokens))))

  bounds_behind : (from rest : List Tok) (bounds : Option Range) → MaybeRange from bounds rest → All HasText from → All HasText rest
  bounds_behind from rest bounds no_range tokens = tokens
  bounds_behind from rest bounds (with_range {bounds = some} is) tokens = range_behind from rest some is tokens

  declared_line : (by : Decl) → Names (AreDeclared by)
  declared_line by from rest before after (declared {at_names = at_names} {bounds = bounds} range_is are) tokens entries =
      let says : Span → Entry = λ id. entry.Declared by id bounds in
      listed (IsName says) (name_line says (λ at. refl)) at_names rest before after are (bounds_behind from at_names bounds range_is tokens) entries

  ansi_line : (by : Direction → Decl) → Names (IsAnsi by)
  ansi_line by from rest before after (ansi {word = word} {from = next} {at_names = at_names} {way = way} is wire_is are) tokens entries =
      declared_line (by way) at_names rest before after are (wire_behind next at_names wire_is (behind word next tokens)) entries

  header_line : Names IsHeader
  header_line from rest before after (names are) tokens entries =
      listed (IsName (λ id. entry.Header id)) (name_line (λ id. entry.Header id) (λ at. refl)) from rest before after are tokens entries
  header_line from rest before after (directions are) tokens entries =
      listed (IsAnsi (λ way. decl.InHeader way)) (ansi_line (λ way. decl.InHeader way)) from rest before after are tokens entries

  ports_line : Names IsPorts
  ports_line from rest before after (ports {begin = begin} {close = close} {from = next} begins are closes) tokens entries =
      let all = maybe IsHeader header_line next (close ∷ rest) before after are (behind begin next tokens) entries in
      record { entries = all.entries; tokens = behind close rest all.tokens }

  mutual
    expr_line : (depth : ℕ) → Names (IsExpr depth)
    expr_line depth from rest before after (whole {id = id} is) tokens entries =
        record { entries = one_entry (λ at. entry.Whole at) (λ at. refl) id rest before is tokens entries; tokens = behind id rest tokens }
    expr_line depth from rest before after (bit {id = id} {begin = a} {index = b} {close = c} {place = place} is _ _ _) tokens entries =
        record {
          entries = one_entry (λ at. entry.Bit at place) (λ at. refl) id (a ∷ b ∷ c ∷ rest) before is tokens entries;
          tokens = behind c rest (behind b (c ∷ rest) (behind a (b ∷ c ∷ rest) (behind id (a ∷ b ∷ c ∷ rest) tokens)));
        }
    expr_line depth from rest before after (part {id = id} {from = next} {bounds = bounds} is range_is) tokens entries =
        record {
          entries = one_entry (λ at. entry.Part at bounds) (λ at. refl) id next before is tokens entries;
          tokens = range_behind next rest bounds range_is (behind id next tokens);
        }
    expr_line depth from rest before after (constant {token = token} is) tokens entries =
        record {
          entries = All-push IsNamed before (entry.Constant token.text.at) entries (All-head HasText token rest tokens (ap is_bad is));
          tokens = behind token rest tokens;
        }
    expr_line depth from rest before after (in_braces {begin = begin} {close = close} {from = next} below begins are closes) tokens entries =
        let all = exprs_line (suc depth) next (close ∷ rest) before after are (behind begin next tokens) entries in
        record { entries = all.entries; tokens = behind close rest all.tokens }

    exprs_line : (depth : ℕ) → Names (AreExprs depth)
    exprs_line depth from rest before after (one_expr is) tokens entries = expr_line depth from rest before after is tokens entries
    exprs_line depth from rest before after (and_expr {middle = middle} {between = between} {comma = comma} is comma_is next) tokens entries =
        let so_far = exprs_line depth from (comma ∷ middle) before between is tokens entries in
        expr_line depth middle rest between after next (behind comma middle so_far.tokens) so_far.entries

  connection_line : Names IsConnection
  connection_line from rest before after
      (connection {dot = dot} {port = port} {begin = begin} {close = close} {from = next} _ is _ are _) tokens entries =
      let at_port = behind dot (port ∷ begin ∷ next) tokens in
      let port_added = one_entry (λ at. entry.Port at) (λ at. refl) port (begin ∷ next) before is at_port entries in
      let all = maybe (IsExpr 0) (expr_line 0) next (close ∷ rest) (added before (entry.Port port.text.at)) after are
      (behind begin next (behind port (begin ∷ next) at_port)) port_added in
      record { entries = all.entries; tokens = behind close rest all.tokens }

  instance_line : (cell : Span) → Names (IsInstance cell)
  instance_line cell from rest before after (instance {id = id} {begin = begin} {close = close} {from = next} is _ are _) tokens entries =
      let own_added = one_entry (λ at. entry.Instance cell at) (λ at. refl) id (begin ∷ next) before is tokens entries in
      let all = maybe (Listed IsConnection) (listed IsConnection connection_line) next (close ∷ rest)
      (added before (entry.Instance cell id.text.at)) after are (behind begin next (behind id (begin ∷ next) tokens)) own_added in
      record { entries = all.entries; tokens = behind close rest all.tokens }

  item_line : Names IsItem
  item_line from rest before after (directed {end = end} are ends) tokens entries =
      let all = ansi_line (λ way. decl.Port way) from (end ∷ rest) before after are tokens entries in
      record { entries = all.entries; tokens = behind end rest all.tokens }
  item_line from rest before after (wires {word = word} {end = end} {from = next} is are ends) tokens entries =
      let all = declared_line decl.Wire next (end ∷ rest) before after are (behind word next tokens) entries in
      record { entries = all.entries; tokens = behind end rest all.tokens }
  item_line from rest before after (instances {cell = cell} {end = end} {from = next} is are ends) tokens entries =
      let all = listed (IsInstance cell.text.at) (instance_line cell.text.at) next (end ∷ rest) before after are
      (behind cell next tokens) entries in
      record { entries = all.entries; tokens = behind end rest all.tokens }

  module_line : Names IsModule
  module_line from rest before after
      (is_module {word = word} {id = id} {semicolon = semicolon} {end = end} {from = next} {items = items} {between = between} _ is header
      _ body _) tokens entries =
      let at_name = behind word (id ∷ next) tokens in
      let own_added = one_entry (λ at. entry.Module at) (λ at. refl) id next before is at_name entries in
      let head = maybe IsPorts ports_line next (semicolon ∷ items) (added before (entry.Module id.text.at)) between header
      (behind id next at_name) own_added in
      let all = many IsItem item_line items (end ∷ rest) between after body (behind semicolon items head.tokens) head.entries in
      record { entries = all.entries; tokens = behind end rest all.tokens }

  numbered_have_texts : (number : ℕ) (texts : List Lexeme) → All (HasByte bytes) texts → All HasText (numbered number texts)
  numbered_have_texts number [] all = All-nil HasText
  numbered_have_texts number (text ∷ texts) all =
      All-cons HasText (record { number = number; text = text }) (numbered (number + 1) texts) (All-head (HasByte bytes) text texts all)
      (numbered_have_texts (number + 1) texts (All-tail (HasByte bytes) text texts all))

  -- each entry that the bytes say
  pub entries_are_named : (entries : List Entry) → SaysNetlist bytes entries → All IsNamed entries
  entries_are_named entries says =
      (many IsModule module_line (numbered 1 says.texts) [] [] entries says.formed
      (numbered_have_texts 1 says.texts (tokens_have_bytes bytes 0 bytes says.texts says.parted refl)) (All-nil IsNamed)).entries
