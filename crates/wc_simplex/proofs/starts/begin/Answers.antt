use Rattle.std.proofs.Common.{◌≡◌, ◌∙◌, ◌+◌, List, Some, ap, ap₂, length, map, refl, sym, subst, arith}
use Rattle.std.specs.List.{All}
use Rattle.std.specs.Option.{option_map}
use Rattle.std.proofs.lemmas.Result.{IfOk-weaker}
use Rattle.wc_model.specs.Flow.Tableaus.{halves, lines_of, starting}
use Rattle.wc_simplex.specs.declared.half.HalfRow.{HalfRow}
use Rattle.wc_simplex.specs.Inner.Halves.{half_as}
use Rattle.wc_simplex.specs.Inner.Starts.{start_as, start_from}
use Rattle.wc_simplex.proofs.StartingLemmas.{rows_made, rows_wide, starting_fails, starting_goes}
use Rattle.wc_simplex.proofs.starts.begin.Goals as goal

pub begin_from-requires-clause-rows : goal.begin_from-requires-clause-rows
begin_from-requires-clause-rows c =
    omega (
      arith,
      rows_made c.args.system.now c.args.columns.now (length c.items.result.now + length c.items-2.result.now) (ap₂ (λ m n. m + n) (ap length c.items.ensures) (ap length c.items-2.ensures))
          c.in-Some.halves.items (sym (ap (option_map (λ v. map half_as v.items)) c.in-Some.is) ∙ c.in_ok-make_halves.ensures),
      ap length c.deref.ensures.value,
      c.requires.few,
    )

pub begin_from-requires-clause-wide : goal.begin_from-requires-clause-wide
begin_from-requires-clause-wide c =
    subst (λ (l : List HalfRow). All (λ h. length h.real.items ≡ length c.args.columns.now + (length c.items.result.now + length c.items-2.result.now)) l) (sym c.deref.ensures.value)
    (rows_wide c.args.system.now c.args.columns.now (length c.items.result.now + length c.items-2.result.now) (ap₂ (λ m n. m + n) (ap length c.items.ensures) (ap length c.items-2.ensures))
    c.in-Some.halves.items (sym (ap (option_map (λ v. map half_as v.items)) c.in-Some.is) ∙ c.in_ok-make_halves.ensures))

pub returns-in-None : goal.returns-in-None
returns-in-None c =
    starting_fails c.args.system.now c.args.columns.now (length c.items.result.now + length c.items-2.result.now) (ap₂ (λ m n. m + n) (ap length c.items.ensures) (ap length c.items-2.ensures))
    (sym (ap (option_map (λ v. map half_as v.items)) c.in-None.is) ∙ c.in_ok-make_halves.ensures)

pub returns-in-Some : goal.returns-in-Some
returns-in-Some c =
    IfOk-weaker c.begin_from.result (λ o. option_map start_as o ≡ start_from c.args.system.now c.args.columns.now (length c.items.result.now + length c.items-2.result.now) (map half_as c.deref.result.now))
    (λ o. option_map start_as o ≡ starting c.args.system.now c.args.columns.now)
    (λ o is. is ∙ ap (λ l. start_from c.args.system.now c.args.columns.now (length c.items.result.now + length c.items-2.result.now) (map half_as l)) c.deref.ensures.value
    ∙ starting_goes c.args.system.now c.args.columns.now (length c.items.result.now + length c.items-2.result.now) (ap₂ (λ m n. m + n) (ap length c.items.ensures) (ap length c.items-2.ensures))
    c.in-Some.halves.items (sym (ap (option_map (λ v. map half_as v.items)) c.in-Some.is) ∙ c.in_ok-make_halves.ensures)) c.begin_from.ensures

pub make_halves-requires-clause-slacks : goal.make_halves-requires-clause-slacks
make_halves-requires-clause-slacks c = ap₂ (λ m n. m + n) (ap length c.items.ensures) (ap length c.items-2.ensures)
