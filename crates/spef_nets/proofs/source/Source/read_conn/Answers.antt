use Rattle.std.proofs.Common.{length, refl, sym, ap, ◌∙◌, subst}
use Rattle.std.specs.Prelude.{List}
use Rattle.name_table.specs.declared.spef_names.NodeName.{NodeName}
use Rattle.spef_text.specs.Entries.{section_at}
use Rattle.spef_nets.specs.RefsOf.{refs_of}
use Rattle.spef_nets.specs.DraftOf.{drafted}
use Rattle.spef_nets.specs.Drafts.{corners_of, IsStop}
use Rattle.spef_nets.proofs.Referring.{word_within, word_named}
use Rattle.spef_nets.proofs.Stepping.{handed_on, with_nodes, conn_unknown, conn_referred, conn_listed, conn_again, conn_load_stop, conn_kept, referred_none, put_conn_words}
use Rattle.spef_nets.proofs.source.Source.read_conn.Goals as goal

-- src/section_reading.rt
pub returns-in_err-spelling-2-clause-err : goal.returns-in_err-spelling-2-clause-err
returns-in_err-spelling-2-clause-err g c =
    handed_on c.from_residual-in_err-spelling-2.result c.in_err-spelling-2.field-0.0 (IsStop c.args.self.now.file.now c.args.self.now.head.now c.args.s) c.from_residual-in_err-spelling-2.ensures.1
    (subst (IsStop c.args.self.now.file.now c.args.self.now.head.now c.args.s) (sym c.in_err-spelling-2.ensures.err)
    (conn_unknown (corners_of g.C.CornerSet.COUNT g.C.CornerSet.number_of g.C.CornerSet.member_of c.args.self.now.pick) c.args.self.now.file.now c.args.self.now.head.now c.args.s (length (section_at c.args.self.now.file.now.reading.sections c.args.s).ress) c.args.i c.conn-conn.result (drafted c.args.draft.now) c.requires.upto c.conn-conn.ensures
    (referred_none c.args.self.now.file.now c.args.draft.now.net c.conn-conn.result.node (refs_of c.args.draft.now.refs) (refs_of c.spelling_at.new.refs) c.in_ok-spelling.spelling c.in_err-spelling-2.ensures.none c.in_ok-spelling.ensures)))

pub list-requires-clause-within : goal.list-requires-clause-within
list-requires-clause-within g c =
    let referred = (conn_referred (corners_of g.C.CornerSet.COUNT g.C.CornerSet.number_of g.C.CornerSet.member_of c.args.self.now.pick) c.args.self.now.file.now c.args.self.now.head.now c.args.s (length (section_at c.args.self.now.file.now.reading.sections c.args.s).ress) c.args.i c.conn-conn.result (drafted c.args.draft.now) c.requires.upto c.conn-conn.ensures (refs_of c.spelling_at.new.refs) c.in_ok-spelling-2.spelling c.in_ok-spelling.spelling c.in_ok-spelling-2.ensures.ok c.in_ok-spelling.ensures) in
    word_within c.args.self.now.file.now c.args.draft.now.net _ _ (refs_of c.spelling_at.new.refs) c.conn-conn.result.node c.in_ok-spelling-2.spelling referred.are referred.ref

pub list-requires-clause-placed : goal.list-requires-clause-placed
list-requires-clause-placed g c = (conn_referred (corners_of g.C.CornerSet.COUNT g.C.CornerSet.number_of g.C.CornerSet.member_of c.args.self.now.pick) c.args.self.now.file.now c.args.self.now.head.now c.args.s (length (section_at c.args.self.now.file.now.reading.sections c.args.s).ress) c.args.i c.conn-conn.result (drafted c.args.draft.now) c.requires.upto c.conn-conn.ensures (refs_of c.spelling_at.new.refs) c.in_ok-spelling-2.spelling c.in_ok-spelling.spelling c.in_ok-spelling-2.ensures.ok c.in_ok-spelling.ensures).are.placed

pub returns-then-list-clause-upto : goal.returns-then-list-clause-upto
returns-then-list-clause-upto g c =
    let listed = (conn_listed (corners_of g.C.CornerSet.COUNT g.C.CornerSet.number_of g.C.CornerSet.member_of c.args.self.now.pick) c.args.self.now.file.now c.args.self.now.head.now c.args.s (length (section_at c.args.self.now.file.now.reading.sections c.args.s).ress) c.args.i c.conn-conn.result (drafted c.args.draft.now) c.requires.upto c.conn-conn.ensures (refs_of c.spelling_at.new.refs) (refs_of c.list.new.self) c.in_ok-spelling-2.spelling c.list.result (conn_referred (corners_of g.C.CornerSet.COUNT g.C.CornerSet.number_of g.C.CornerSet.member_of c.args.self.now.pick) c.args.self.now.file.now c.args.self.now.head.now c.args.s (length (section_at c.args.self.now.file.now.reading.sections c.args.s).ress) c.args.i c.conn-conn.result (drafted c.args.draft.now) c.requires.upto c.conn-conn.ensures (refs_of c.spelling_at.new.refs) c.in_ok-spelling-2.spelling c.in_ok-spelling.spelling c.in_ok-spelling-2.ensures.ok c.in_ok-spelling.ensures) c.list.ensures) in
    conn_again (corners_of g.C.CornerSet.COUNT g.C.CornerSet.number_of g.C.CornerSet.member_of c.args.self.now.pick) c.args.self.now.file.now c.args.self.now.head.now c.args.s (length (section_at c.args.self.now.file.now.reading.sections c.args.s).ress) c.args.i c.conn-conn.result (drafted c.args.draft.now) c.requires.upto c.conn-conn.ensures listed.node listed.known (drafted (record { net = c.args.draft.now.net; refs = c.list.new.self; conns = c.args.draft.now.conns; loads = c.args.draft.now.loads; caps = c.args.draft.now.caps; farads = c.args.draft.now.farads; joints = c.args.draft.now.joints; ohms = c.args.draft.now.ohms })) (sym listed.was_is ∙ c.if-list.true)
    (ap (λ (l : List NodeName). with_nodes (drafted c.args.draft.now).net l) listed.nodes) refl listed.are

pub returns-then-list-clause-grows : goal.returns-then-list-clause-grows
returns-then-list-clause-grows g c = (conn_listed (corners_of g.C.CornerSet.COUNT g.C.CornerSet.number_of g.C.CornerSet.member_of c.args.self.now.pick) c.args.self.now.file.now c.args.self.now.head.now c.args.s (length (section_at c.args.self.now.file.now.reading.sections c.args.s).ress) c.args.i c.conn-conn.result (drafted c.args.draft.now) c.requires.upto c.conn-conn.ensures (refs_of c.spelling_at.new.refs) (refs_of c.list.new.self) c.in_ok-spelling-2.spelling c.list.result (conn_referred (corners_of g.C.CornerSet.COUNT g.C.CornerSet.number_of g.C.CornerSet.member_of c.args.self.now.pick) c.args.self.now.file.now c.args.self.now.head.now c.args.s (length (section_at c.args.self.now.file.now.reading.sections c.args.s).ress) c.args.i c.conn-conn.result (drafted c.args.draft.now) c.requires.upto c.conn-conn.ensures (refs_of c.spelling_at.new.refs) c.in_ok-spelling-2.spelling c.in_ok-spelling.spelling c.in_ok-spelling-2.ensures.ok c.in_ok-spelling.ensures) c.list.ensures).grows

pub returns-in_err-load-clause-err : goal.returns-in_err-load-clause-err
returns-in_err-load-clause-err g c =
    let listed = (conn_listed (corners_of g.C.CornerSet.COUNT g.C.CornerSet.number_of g.C.CornerSet.member_of c.args.self.now.pick) c.args.self.now.file.now c.args.self.now.head.now c.args.s (length (section_at c.args.self.now.file.now.reading.sections c.args.s).ress) c.args.i c.conn-conn.result (drafted c.args.draft.now) c.requires.upto c.conn-conn.ensures (refs_of c.spelling_at.new.refs) (refs_of c.list.new.self) c.in_ok-spelling-2.spelling c.list.result (conn_referred (corners_of g.C.CornerSet.COUNT g.C.CornerSet.number_of g.C.CornerSet.member_of c.args.self.now.pick) c.args.self.now.file.now c.args.self.now.head.now c.args.s (length (section_at c.args.self.now.file.now.reading.sections c.args.s).ress) c.args.i c.conn-conn.result (drafted c.args.draft.now) c.requires.upto c.conn-conn.ensures (refs_of c.spelling_at.new.refs) c.in_ok-spelling-2.spelling c.in_ok-spelling.spelling c.in_ok-spelling-2.ensures.ok c.in_ok-spelling.ensures) c.list.ensures) in
    handed_on c.from_residual-in_err-load.result c.in_err-load.field-0.0 (IsStop c.args.self.now.file.now c.args.self.now.head.now c.args.s) c.from_residual-in_err-load.ensures.1
    (conn_load_stop (corners_of g.C.CornerSet.COUNT g.C.CornerSet.number_of g.C.CornerSet.member_of c.args.self.now.pick) c.args.self.now.file.now c.args.self.now.head.now c.args.s (length (section_at c.args.self.now.file.now.reading.sections c.args.s).ress) c.args.i c.conn-conn.result (drafted c.args.draft.now) c.requires.upto c.conn-conn.ensures listed.node listed.known (sym listed.was_is ∙ c.if-list.false) c.in_err-load.field-0.0 c.in_err-load.ensures.err)

pub put_conn-requires-clause-within : goal.put_conn-requires-clause-within
put_conn-requires-clause-within g c =
    let listed = (conn_listed (corners_of g.C.CornerSet.COUNT g.C.CornerSet.number_of g.C.CornerSet.member_of c.args.self.now.pick) c.args.self.now.file.now c.args.self.now.head.now c.args.s (length (section_at c.args.self.now.file.now.reading.sections c.args.s).ress) c.args.i c.conn-conn.result (drafted c.args.draft.now) c.requires.upto c.conn-conn.ensures (refs_of c.spelling_at.new.refs) (refs_of c.list.new.self) c.in_ok-spelling-2.spelling c.list.result (conn_referred (corners_of g.C.CornerSet.COUNT g.C.CornerSet.number_of g.C.CornerSet.member_of c.args.self.now.pick) c.args.self.now.file.now c.args.self.now.head.now c.args.s (length (section_at c.args.self.now.file.now.reading.sections c.args.s).ress) c.args.i c.conn-conn.result (drafted c.args.draft.now) c.requires.upto c.conn-conn.ensures (refs_of c.spelling_at.new.refs) c.in_ok-spelling-2.spelling c.in_ok-spelling.spelling c.in_ok-spelling-2.ensures.ok c.in_ok-spelling.ensures) c.list.ensures) in
    word_within c.args.self.now.file.now c.args.draft.now.net _ _ (refs_of c.list.new.self) c.conn-conn.result.node c.in_ok-spelling-2.spelling listed.are listed.ref

pub put_conn-requires-clause-named : goal.put_conn-requires-clause-named
put_conn-requires-clause-named g c =
    let listed = (conn_listed (corners_of g.C.CornerSet.COUNT g.C.CornerSet.number_of g.C.CornerSet.member_of c.args.self.now.pick) c.args.self.now.file.now c.args.self.now.head.now c.args.s (length (section_at c.args.self.now.file.now.reading.sections c.args.s).ress) c.args.i c.conn-conn.result (drafted c.args.draft.now) c.requires.upto c.conn-conn.ensures (refs_of c.spelling_at.new.refs) (refs_of c.list.new.self) c.in_ok-spelling-2.spelling c.list.result (conn_referred (corners_of g.C.CornerSet.COUNT g.C.CornerSet.number_of g.C.CornerSet.member_of c.args.self.now.pick) c.args.self.now.file.now c.args.self.now.head.now c.args.s (length (section_at c.args.self.now.file.now.reading.sections c.args.s).ress) c.args.i c.conn-conn.result (drafted c.args.draft.now) c.requires.upto c.conn-conn.ensures (refs_of c.spelling_at.new.refs) c.in_ok-spelling-2.spelling c.in_ok-spelling.spelling c.in_ok-spelling-2.ensures.ok c.in_ok-spelling.ensures) c.list.ensures) in
    word_named c.args.self.now.file.now c.args.draft.now.net _ _ (refs_of c.list.new.self) c.conn-conn.result.node c.in_ok-spelling-2.spelling listed.are listed.ref

pub put_conn-requires-clause-placed : goal.put_conn-requires-clause-placed
put_conn-requires-clause-placed g c = (conn_listed (corners_of g.C.CornerSet.COUNT g.C.CornerSet.number_of g.C.CornerSet.member_of c.args.self.now.pick) c.args.self.now.file.now c.args.self.now.head.now c.args.s (length (section_at c.args.self.now.file.now.reading.sections c.args.s).ress) c.args.i c.conn-conn.result (drafted c.args.draft.now) c.requires.upto c.conn-conn.ensures (refs_of c.spelling_at.new.refs) (refs_of c.list.new.self) c.in_ok-spelling-2.spelling c.list.result (conn_referred (corners_of g.C.CornerSet.COUNT g.C.CornerSet.number_of g.C.CornerSet.member_of c.args.self.now.pick) c.args.self.now.file.now c.args.self.now.head.now c.args.s (length (section_at c.args.self.now.file.now.reading.sections c.args.s).ress) c.args.i c.conn-conn.result (drafted c.args.draft.now) c.requires.upto c.conn-conn.ensures (refs_of c.spelling_at.new.refs) c.in_ok-spelling-2.spelling c.in_ok-spelling.spelling c.in_ok-spelling-2.ensures.ok c.in_ok-spelling.ensures) c.list.ensures).are.placed

pub returns-clause-upto : goal.returns-clause-upto
returns-clause-upto g c =
    let listed = (conn_listed (corners_of g.C.CornerSet.COUNT g.C.CornerSet.number_of g.C.CornerSet.member_of c.args.self.now.pick) c.args.self.now.file.now c.args.self.now.head.now c.args.s (length (section_at c.args.self.now.file.now.reading.sections c.args.s).ress) c.args.i c.conn-conn.result (drafted c.args.draft.now) c.requires.upto c.conn-conn.ensures (refs_of c.spelling_at.new.refs) (refs_of c.list.new.self) c.in_ok-spelling-2.spelling c.list.result (conn_referred (corners_of g.C.CornerSet.COUNT g.C.CornerSet.number_of g.C.CornerSet.member_of c.args.self.now.pick) c.args.self.now.file.now c.args.self.now.head.now c.args.s (length (section_at c.args.self.now.file.now.reading.sections c.args.s).ress) c.args.i c.conn-conn.result (drafted c.args.draft.now) c.requires.upto c.conn-conn.ensures (refs_of c.spelling_at.new.refs) c.in_ok-spelling-2.spelling c.in_ok-spelling.spelling c.in_ok-spelling-2.ensures.ok c.in_ok-spelling.ensures) c.list.ensures) in
    conn_kept (corners_of g.C.CornerSet.COUNT g.C.CornerSet.number_of g.C.CornerSet.member_of c.args.self.now.pick) c.args.self.now.file.now c.args.self.now.head.now c.args.s (length (section_at c.args.self.now.file.now.reading.sections c.args.s).ress) c.args.i c.conn-conn.result (drafted c.args.draft.now) c.requires.upto c.conn-conn.ensures listed.node listed.known (sym listed.was_is ∙ c.if-list.false) (drafted (record { net = c.args.draft.now.net; refs = c.list.new.self; conns = c.args.draft.now.conns; loads = c.args.draft.now.loads; caps = c.args.draft.now.caps; farads = c.args.draft.now.farads; joints = c.args.draft.now.joints; ohms = c.args.draft.now.ohms })) (drafted c.put_conn.new.self) c.in_ok-spelling-2.spelling c.in_ok-load.load
    (ap (λ (l : List NodeName). with_nodes (drafted c.args.draft.now).net l) listed.nodes) refl refl listed.are listed.ref c.in_ok-put_conn.ensures c.in_ok-load.ensures.ok

pub returns-clause-grows : goal.returns-clause-grows
returns-clause-grows g c =
    let listed = (conn_listed (corners_of g.C.CornerSet.COUNT g.C.CornerSet.number_of g.C.CornerSet.member_of c.args.self.now.pick) c.args.self.now.file.now c.args.self.now.head.now c.args.s (length (section_at c.args.self.now.file.now.reading.sections c.args.s).ress) c.args.i c.conn-conn.result (drafted c.args.draft.now) c.requires.upto c.conn-conn.ensures (refs_of c.spelling_at.new.refs) (refs_of c.list.new.self) c.in_ok-spelling-2.spelling c.list.result (conn_referred (corners_of g.C.CornerSet.COUNT g.C.CornerSet.number_of g.C.CornerSet.member_of c.args.self.now.pick) c.args.self.now.file.now c.args.self.now.head.now c.args.s (length (section_at c.args.self.now.file.now.reading.sections c.args.s).ress) c.args.i c.conn-conn.result (drafted c.args.draft.now) c.requires.upto c.conn-conn.ensures (refs_of c.spelling_at.new.refs) c.in_ok-spelling-2.spelling c.in_ok-spelling.spelling c.in_ok-spelling-2.ensures.ok c.in_ok-spelling.ensures) c.list.ensures) in
    (listed.grows.0, put_conn_words (corners_of g.C.CornerSet.COUNT g.C.CornerSet.number_of g.C.CornerSet.member_of c.args.self.now.pick) (drafted (record { net = c.args.draft.now.net; refs = c.list.new.self; conns = c.args.draft.now.conns; loads = c.args.draft.now.loads; caps = c.args.draft.now.caps; farads = c.args.draft.now.farads; joints = c.args.draft.now.joints; ohms = c.args.draft.now.ohms })) (drafted c.put_conn.new.self) c.in_ok-spelling-2.spelling c.conn-conn.result c.in_ok-load.load c.in_ok-put_conn.ensures ∙ listed.grows.1)
