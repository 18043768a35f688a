-- A group of a library means one table, or one fault: each part of the search has one answer, and so has each part after another.
use Rattle.std.proofs.Common.{◌≡◌, ◌≢◌, ℕ, zero, suc, List, [], ◌∷◌, map, Option, Some, None, ℤ, pos, ◌≤ℤ◌, Contains, Result, Ok, Err, refl, sym, ap, subst, ◌∙◌, arith}
use Rattle.std.specs.Prelude.{All, codes}
use Rattle.delay_units.specs.Literal.{IsNumber}
use Rattle.delay_units.specs.Reading.{ReadsAs}
use Rattle.delay_units.specs.declared.numbers.Unit.{Unit}
use Rattle.delay_units.proofs.ReadingLemmas.{one_text_reading}
use Rattle.edge_io.specs.Zipping.{one_zip}
use Rattle.liberty_groups.specs.Groups.{Attribute, Group, attributes_of}
use Rattle.nldm_lookup.specs.Tables.{TimingTable, IsSmall}
use Rattle.nldm_lookup.specs.declared.faults.Which.{Which}
use Rattle.liberty_tables.specs.FullTables.{IsFullTable, full, wrong_count, no_room}
use Rattle.liberty_tables.specs.NumberLists.{AreReadings, IsNoNumber, HasNoNumber, pieces_of}
use Rattle.liberty_tables.specs.OneMeaning.{AreOne, OneTable, OneTransition}
use Rattle.liberty_tables.specs.TableModel.{unit_of, index_of, value_pieces, table_over, IsAxisOf, are_points, no_axis, no_axis_memory, AxisMeans, no_number, of_readings, no_index_memory, PointsMean, of_variable, of_none, no_points_memory, ValuesMean, are_values, no_value, past_bound, no_values_memory, HasAxes, TableMeans, TransitionMeans, no_template, no_variables, no_first_axis, no_second_axis, no_values, not_full, is_table, no_table_memory, no_transition, below_zero, settled}
use Rattle.liberty_tables.specs.Templates.{template_of, variables_of}
use Rattle.liberty_tables.specs.declared.library_units.LibraryUnits.{LibraryUnits}
use Rattle.liberty_tables.specs.declared.table_names.TableNames.{TableNames}
use Rattle.liberty_tables.specs.declared.templates.Variables.{Variables}
use Rattle.liberty_tables.specs.declared.faults.CellFault.{CellFault}
use Rattle.liberty_tables.specs.declared.faults.CellFault.TheVariants.{UnknownTemplate, UnknownVariable, OutOfMemory}

-- one reading of each piece
one_list : (unit : Unit) (pieces : List (List ℕ)) (vs ws : List ℤ) → AreReadings unit pieces vs → AreReadings unit pieces ws → vs ≡ ws
one_list unit = one_zip (ReadsAs unit) (one_text_reading unit)

-- pieces with readings are numbers
all_numbers : (unit : Unit) (pieces : List (List ℕ)) (vs : List ℤ) → AreReadings unit pieces vs → HasNoNumber pieces → ⊥
all_numbers unit pieces vs are has = each pieces vs has.piece are has.among has.unread
  where
    each : (pieces : List (List ℕ)) (vs : List ℤ) (piece : List ℕ) → AreReadings unit pieces vs → Contains pieces piece → IsNoNumber piece → ⊥
    each [] vs piece are (k, below, is) bad = absurd (omega (arith, below))
    each (first ∷ pieces) [] piece are among bad = absurd are
    each (first ∷ pieces) (v ∷ vs) piece are (zero, below, is) bad = bad are.0.number (subst (λ t. IsNumber t are.0.number) is are.0.reads)
    each (first ∷ pieces) (v ∷ vs) piece are (suc k, below, is) bad = each pieces vs piece are.1 (k, omega (arith, below), is) bad

err_is : {A : Type 0} (a b : CellFault) → a ≡ b → (let one : Result A CellFault = Err a in one ≡ Err b)
err_is a b e = ap Err e

-- one answer of each part
abbrev Unique : {A : Type 0} → (Result A CellFault → Type 0) → Type 0
Unique {A} P = (one other : Result A CellFault) → P one → P other → AreOne one other

one_axis_of : (readings : List ℤ) → Unique (IsAxisOf readings)
one_axis_of readings _ _ (are_points points are axis) (are_points others same other) = λ n m. ap Ok (one_map points others (sym are ∙ same))
  where
    one_map : (xs ys : List ℕ) → map pos xs ≡ map pos ys → xs ≡ ys
    one_map [] [] e = refl
    one_map [] (y ∷ ys) e = absurd (cc)
    one_map (x ∷ xs) [] e = absurd (cc)
    one_map (x ∷ xs) (y ∷ ys) e = let rest = one_map xs ys (cc) in let first : x ≡ y = cc in cc
one_axis_of readings _ _ (are_points points are axis) (no_axis none) = λ n m. absurd (none points are axis)
one_axis_of readings _ _ (are_points points are axis) no_axis_memory = λ n m. absurd (m refl)
one_axis_of readings _ _ (no_axis none) (are_points points are axis) = λ n m. absurd (none points are axis)
one_axis_of readings _ _ (no_axis none) (no_axis other) = λ n m. refl
one_axis_of readings _ _ (no_axis none) no_axis_memory = λ n m. absurd (m refl)
one_axis_of readings _ _ no_axis_memory other = λ n m. absurd (n refl)

one_axis : (unit : Unit) (pieces : List (List ℕ)) → Unique (AxisMeans unit pieces)
one_axis unit pieces _ _ (no_number has) (no_number other) = λ n m. refl
one_axis unit pieces _ b (no_number has) (of_readings readings _ are axis) = λ n m. absurd (all_numbers unit pieces readings are has)
one_axis unit pieces _ _ (no_number has) no_index_memory = λ n m. absurd (m refl)
one_axis unit pieces a _ (of_readings readings _ are axis) (no_number has) = λ n m. absurd (all_numbers unit pieces readings are has)
one_axis unit pieces a b (of_readings readings _ are axis) (of_readings others _ same other) =
    one_axis_of others a b (subst (λ rs. IsAxisOf rs a) (one_list unit pieces readings others are same) axis) other
one_axis unit pieces a _ (of_readings readings _ are axis) no_index_memory = λ n m. absurd (m refl)
one_axis unit pieces _ b no_index_memory other = λ n m. absurd (n refl)

one_points : (called : TableNames) (units : LibraryUnits) (key : List ℕ) (table template : List Attribute) (variable : Option Which) → Unique (PointsMean called units key table template variable)
one_points called units key table template _ a b (of_variable which _ axis) (of_variable _ _ other) = one_axis (unit_of called units which) (pieces_of (index_of key table template)) a b axis other
one_points called units key table template _ a _ (of_variable which _ axis) (no_points_memory _) = λ n m. absurd (m refl)
one_points called units key table template _ _ _ of_none of_none = λ n m. refl
one_points called units key table template _ _ _ of_none (no_points_memory _) = λ n m. absurd (m refl)
one_points called units key table template _ _ b (no_points_memory _) other = λ n m. absurd (n refl)

one_values : (unit : Unit) (pieces : List (List ℕ)) → Unique (ValuesMean unit pieces)
one_values unit pieces _ _ (are_values vs are small) (are_values ws same other) = λ n m. ap Ok (one_list unit pieces vs ws are same)
one_values unit pieces _ _ (are_values vs are small) (no_value has) = λ n m. absurd (all_numbers unit pieces vs are has)
one_values unit pieces _ _ (are_values vs are small) (past_bound ws same past) = λ n m. absurd (past (subst (All IsSmall) (one_list unit pieces vs ws are same) small))
one_values unit pieces _ _ (are_values vs are small) no_values_memory = λ n m. absurd (m refl)
one_values unit pieces _ _ (no_value has) (are_values ws same small) = λ n m. absurd (all_numbers unit pieces ws same has)
one_values unit pieces _ _ (no_value has) (no_value other) = λ n m. refl
one_values unit pieces _ _ (no_value has) (past_bound ws same past) = λ n m. refl
one_values unit pieces _ _ (no_value has) no_values_memory = λ n m. absurd (m refl)
one_values unit pieces _ _ (past_bound vs are past) (are_values ws same small) = λ n m. absurd (past (subst (All IsSmall) (one_list unit pieces ws vs same are) small))
one_values unit pieces _ _ (past_bound vs are past) (no_value other) = λ n m. refl
one_values unit pieces _ _ (past_bound vs are past) (past_bound ws same others) = λ n m. refl
one_values unit pieces _ _ (past_bound vs are past) no_values_memory = λ n m. absurd (m refl)
one_values unit pieces _ _ no_values_memory other = λ n m. absurd (n refl)

one_full : (table : TimingTable) → Unique (IsFullTable table)
one_full table _ _ (full is) (full other) = λ n m. refl
one_full table _ _ (full is) (wrong_count other) = λ n m. absurd (other is)
one_full table _ _ (full is) no_room = λ n m. absurd (m refl)
one_full table _ _ (wrong_count is) (full other) = λ n m. absurd (is other)
one_full table _ _ (wrong_count is) (wrong_count other) = λ n m. refl
one_full table _ _ (wrong_count is) no_room = λ n m. absurd (m refl)
one_full table _ _ no_room other = λ n m. absurd (n refl)

-- what is known, or else a fault
data Known {X : Type 0} (some : Option X) (fault : CellFault) : Result X CellFault → Type 0 where
  is_known : (x : X) → some ≡ Some x → Known some fault (Ok x)
  is_unknown : some ≡ None → Known some fault (Err fault)

one_known : {X : Type 0} (some : Option X) (fault : CellFault) → Unique (Known some fault)
one_known some fault _ _ (is_known x is) (is_known y other) = λ n m. cc
one_known some fault _ _ (is_known x is) (is_unknown other) = λ n m. absurd (cc)
one_known some fault _ _ (is_unknown is) (is_known y other) = λ n m. absurd (cc)
one_known some fault _ _ (is_unknown is) (is_unknown other) = λ n m. refl

-- one part after another
data Then {X Y : Type 0} (P : Result X CellFault → Type 0) (Q : X → Result Y CellFault → Type 0) : Result Y CellFault → Type 0 where
  stop : (fault : CellFault) → P (Err fault) → Then P Q (Err fault)
  go_on : (x : X) (answer : Result Y CellFault) → P (Ok x) → Q x answer → Then P Q answer

err_apart : {X : Type 0} (fault : CellFault) (x : X) → (let one : Result X CellFault = Err fault in one ≡ Ok x) → ⊥
err_apart fault x e = absurd (cc)

err_same : {X Y : Type 0} (a b : CellFault) → (let one : Result X CellFault = Err a in one ≡ Err b) → (let one : Result Y CellFault = Err a in one ≡ Err b)
err_same a b e = let same : a ≡ b = cc in ap Err same

memory_same : {X Y : Type 0} (a : CellFault) → (let one : Result Y CellFault = Err a in one ≢ Err OutOfMemory) → (let one : Result X CellFault = Err a in one ≢ Err OutOfMemory)
memory_same a n e = let same : a ≡ OutOfMemory = cc in n (ap Err same)

ok_apart : {X : Type 0} (x : X) → (let one : Result X CellFault = Ok x in one ≢ Err OutOfMemory)
ok_apart x e = absurd (cc)

ok_same : {X : Type 0} (x y : X) → (let one : Result X CellFault = Ok x in one ≡ Ok y) → x ≡ y
ok_same x y e = cc

one_then : {X Y : Type 0} (P : Result X CellFault → Type 0) (Q : X → Result Y CellFault → Type 0) → Unique P → ((x : X) → Unique (Q x)) → Unique (Then P Q)
one_then P Q first later _ _ (stop a here) (stop b there) = λ n m. err_same a b (first (Err a) (Err b) here there (memory_same a n) (memory_same b m))
one_then P Q first later _ answer (stop a here) (go_on x _ there more) = λ n m. absurd (err_apart a x (first (Err a) (Ok x) here there (memory_same a n) (ok_apart x)))
one_then P Q first later answer _ (go_on x _ here more) (stop b there) = λ n m. absurd (err_apart b x (sym (first (Ok x) (Err b) here there (ok_apart x) (memory_same b m))))
one_then P Q first later one other (go_on x _ here more) (go_on y _ there others) =
    let same : x ≡ y = ok_same x y (first (Ok x) (Ok y) here there (ok_apart x) (ok_apart y)) in
    later y one other (subst (λ z. Q z one) same more) others

-- the search for a table, part after part
module _ (called : TableNames) (library table : Group) (units : LibraryUnits) where
  abbrev Made : Variables → List ℕ → List ℕ → List ℤ → Result TimingTable CellFault → Type 0
  Made variables first second values answer = IsFullTable (table_over variables.first first second values) answer

  abbrev WithValues : Variables → List ℕ → List ℕ → Result TimingTable CellFault → Type 0
  WithValues variables first second answer = Then (ValuesMean units.time (value_pieces table)) (Made variables first second) answer

  abbrev WithSecond : List Attribute → Variables → List ℕ → Result TimingTable CellFault → Type 0
  WithSecond template variables first answer = Then (PointsMean called units (codes "index_2") (attributes_of table) template variables.second) (WithValues variables first) answer

  abbrev WithFirst : List Attribute → Variables → Result TimingTable CellFault → Type 0
  WithFirst template variables answer = Then (PointsMean called units (codes "index_1") (attributes_of table) template variables.first) (WithSecond template variables) answer

  abbrev WithTemplate : List Attribute → Result TimingTable CellFault → Type 0
  WithTemplate template answer = Then (Known (variables_of called template) UnknownVariable) (WithFirst template) answer

  abbrev Search : Result TimingTable CellFault → Type 0
  Search answer = Then (Known (template_of library table) UnknownTemplate) WithTemplate answer

  one_search : Unique Search
  one_search = one_then _ _ (one_known (template_of library table) UnknownTemplate) (λ template.
      one_then _ _ (one_known (variables_of called template) UnknownVariable) (λ variables.
      one_then _ _ (one_points called units (codes "index_1") (attributes_of table) template variables.first) (λ first.
      one_then _ _ (one_points called units (codes "index_2") (attributes_of table) template variables.second) (λ second.
      one_then _ _ (one_values units.time (value_pieces table)) (λ values. one_full (table_over variables.first first second values))))))

  after_axes : (template : List Attribute) (variables : Variables) (first second : List ℕ) (answer : Result TimingTable CellFault) → HasAxes called library table units template variables first second → WithValues variables first second answer → Search answer
  after_axes template variables first second answer axes more =
      go_on template answer (is_known template axes.begun.laid_out.named) (go_on variables answer (is_known variables axes.begun.laid_out.known) (go_on first answer axes.begun.first_axis (go_on second answer axes.second_axis more)))

  searched : (answer : Result TimingTable CellFault) → TableMeans called library table units answer → answer ≢ Err OutOfMemory → Search answer
  searched _ (no_template none) n = stop UnknownTemplate (is_unknown none)
  searched _ (no_variables template named none) n = go_on template (Err UnknownVariable) (is_known template named) (stop UnknownVariable (is_unknown none))
  searched _ (no_first_axis template variables fault laid_out points) n = go_on template (Err fault) (is_known template laid_out.named) (go_on variables (Err fault) (is_known variables laid_out.known) (stop fault points))
  searched _ (no_second_axis template variables first fault begun points) n =
      go_on template (Err fault) (is_known template begun.laid_out.named) (go_on variables (Err fault) (is_known variables begun.laid_out.known) (go_on first (Err fault) begun.first_axis (stop fault points)))
  searched _ (no_values template variables first second fault axes values) n = after_axes template variables first second (Err fault) axes (stop fault values)
  searched a (not_full template variables first second values axes means other) n = after_axes template variables first second a axes (go_on values a means (wrong_count other))
  searched a (is_table template variables first second values axes means is) n = after_axes template variables first second a axes (go_on values a means (full is))
  searched _ no_table_memory n = absurd (n refl)

pub one_table_lem : OneTable
one_table_lem called library table units one other means others n m = one_search called library table units one other (searched called library table units one means n) (searched called library table units other others m) n m

pub one_made : (called : TableNames) (library table : Group) (units : LibraryUnits) (made others : TimingTable) → TableMeans called library table units (Ok made) → TableMeans called library table units (Ok others) → made ≡ others
one_made called library table units made others means other = ok_same made others (one_table_lem called library table units (Ok made) (Ok others) means other (ok_apart made) (ok_apart others))

pub one_transition_lem : OneTransition
one_transition_lem called library table units _ _ (no_transition a means) (no_transition b other) = one_table_lem called library table units (Err a) (Err b) means other
one_transition_lem called library table units _ _ (no_transition a means) (below_zero made other negative) = λ n m. absurd (err_apart a made (one_table_lem called library table units (Err a) (Ok made) means other n (ok_apart made)))
one_transition_lem called library table units _ _ (no_transition a means) (settled made other all) = λ n m. absurd (err_apart a made (one_table_lem called library table units (Err a) (Ok made) means other n (ok_apart made)))
one_transition_lem called library table units _ _ (below_zero made means negative) (no_transition b other) = λ n m. absurd (err_apart b made (sym (one_table_lem called library table units (Ok made) (Err b) means other (ok_apart made) m)))
one_transition_lem called library table units _ _ (below_zero made means negative) (below_zero others other negatives) = λ n m. refl
one_transition_lem called library table units _ _ (below_zero made means negative) (settled others other all) = λ n m. absurd (negative (subst (λ (t : TimingTable). All (λ value. pos 0 ≤ℤ value) t.values) (one_made called library table units others made other means) all))
one_transition_lem called library table units _ _ (settled made means all) (no_transition b other) = λ n m. absurd (err_apart b made (sym (one_table_lem called library table units (Ok made) (Err b) means other (ok_apart made) m)))
one_transition_lem called library table units _ _ (settled made means all) (below_zero others other negative) = λ n m. absurd (negative (subst (λ (t : TimingTable). All (λ value. pos 0 ≤ℤ value) t.values) (one_made called library table units made others means other) all))
one_transition_lem called library table units _ _ (settled made means all) (settled others other alls) = λ n m. ap Ok (one_made called library table units made others means other)

pub one_transition_made : (called : TableNames) (library table : Group) (units : LibraryUnits) (made others : TimingTable) → TransitionMeans called library table units (Ok made) → TransitionMeans called library table units (Ok others) → made ≡ others
one_transition_made called library table units made others means other =
    ok_same made others (one_transition_lem called library table units (Ok made) (Ok others) means other (ok_apart made) (ok_apart others))
