use Rattle.std.proofs.Common.{◌≡◌, ◌<◌, ◌-◌, ap, map, true, sym, ◌∙◌, length, arith, string_bytes}
use Rattle.std.proofs.lemmas.List.{length-map}
use Rattle.wc_io.specs.Memory.{filled, seen}
use Rattle.wc_io.specs.Rows.{row_of, path_of}
use Rattle.wc_io.specs.declared.opened.OpenedRow.{OpenedRow}
use Rattle.wc_io.proofs.FileLemmas.{filled_here, filled_others}
use Rattle.wc_io.proofs.RowLemmas.{sink_at_within, path_at_map}
use Rattle.wc_io.proofs.memory_house.MemoryHouseHouse.return_sink.Goals as goal

pub index-row-requires : goal.index-row-requires
index-row-requires c =
    let within = sink_at_within (map row_of c.args.self.now.opened.items) (c.args.sink.place - 1) true c.requires.1 in
    let small : c.args.sink.place - 1 < length c.args.self.now.opened.items = omega (arith, within, length-map c.args.self.now.opened.items row_of) in
    omega (arith, small, c.args.self.now.opened.ok)

-- the path of the sink's row
named : (c : goal.After-drop-sink-2) → path_of c.args.sink.place (map row_of c.args.self.now.opened.items) ≡ c.as_str.result.now
named c =
    let within = sink_at_within (map row_of c.args.self.now.opened.items) (c.args.sink.place - 1) true c.requires.1 in
    path_at_map c.args.self.now.opened.items (c.args.sink.place - 1) c.index-row.result.now (omega (arith, within, length-map c.args.self.now.opened.items row_of))
    ∙ ap (λ (r : OpenedRow). string_bytes r.path) (sym c.index-row.ensures) ∙ sym c.as_str.ensures.value

pub returns-clause-filled : goal.returns-clause-filled
returns-clause-filled c = c.fill_file.ensures ∙ ap (λ path. filled path c.args.sink.held.items (map seen c.args.self.now.files.items)) (sym (named c))

pub returns-clause-file : goal.returns-clause-file
returns-clause-file c =
    rw (named c, c.fill_file.ensures) (filled_here c.as_str.result.now c.args.sink.held.items (map seen c.args.self.now.files.items))

pub returns-clause-others : goal.returns-clause-others
returns-clause-others c = λ p other.
    rw c.fill_file.ensures
    (filled_others c.as_str.result.now p c.args.sink.held.items (map seen c.args.self.now.files.items) (λ same. other (same ∙ sym (named c))))
