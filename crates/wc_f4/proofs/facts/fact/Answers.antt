use Rattle.std.proofs.Common.{ℕ, [], Err, ap, ◌∙◌, ⊎_elim}
use Rattle.wc_f4.specs.declared.stops.Stop.TheVariants.{Bad}
use Rattle.wc_f4.specs.declared.branchings.Branching.TheVariants.{Jump, Call}
use Rattle.wc_f4.specs.Places as place
use Rattle.wc_f4.specs.Places.{answer}
use Rattle.wc_f4.specs.Tokens.{word}
use Rattle.wc_f4.specs.Views.{known, left}
use Rattle.wc_f4.proofs.ParsingLemmas.{behind, by_turn, no_word, one_place, stopped}
use Rattle.wc_f4.proofs.facts.fact.Goals as goal

pub returns-in_err-word-clause-read : goal.returns-in_err-word-clause-read
returns-in_err-word-clause-read c =
    λ later facts.
    stopped (known c.args.names.now) place.first word c.from_residual.result c.in_err-word.field-0.0 (left c.args.reader.now) (left c.word.new.self) (λ t other. no_word t _ other)
    c.from_residual.ensures.1 c.in_err-word.ensures later facts _

pub returns-in-Loop-clause-read : goal.returns-in-Loop-clause-read
returns-in-Loop-clause-read c =
    λ later facts.
    behind c.loop_fact.result _ _ _
    (by_turn (known c.args.names.now) later place.first facts (left c.args.reader.now) (left c.word.new.self) (word c.in_ok-word.field-0) c.in_ok-word.ensures.0
    (place.go (place.address place.looped)) c.in_ok-word.ensures.1 (ap place.begin_fact c.in-Loop.is))
    (c.loop_fact.ensures.read later facts)

pub returns-in-Multibranch-clause-read : goal.returns-in-Multibranch-clause-read
returns-in-Multibranch-clause-read c =
    λ later facts.
    behind c.branching.result _ _ _
    (by_turn (known c.args.names.now) later place.first facts (left c.args.reader.now) (left c.word.new.self) (word c.in_ok-word.field-0) c.in_ok-word.ensures.0
    (place.go (place.address (place.branching Jump))) c.in_ok-word.ensures.1 (ap place.begin_fact c.in-Multibranch.is))
    (c.branching.ensures.read later facts)

pub returns-in-Multicall-clause-read : goal.returns-in-Multicall-clause-read
returns-in-Multicall-clause-read c =
    λ later facts.
    behind c.branching-in-Multicall.result _ _ _
    (by_turn (known c.args.names.now) later place.first facts (left c.args.reader.now) (left c.word.new.self) (word c.in_ok-word.field-0) c.in_ok-word.ensures.0
    (place.go (place.address (place.branching Call))) c.in_ok-word.ensures.1 (ap place.begin_fact c.in-Multicall.is))
    (c.branching-in-Multicall.ensures.read later facts)

pub returns-in-Noreturn-clause-read : goal.returns-in-Noreturn-clause-read
returns-in-Noreturn-clause-read c =
    λ later facts.
    behind c.noreturn_fact.result _ _ _
    (by_turn (known c.args.names.now) later place.first facts (left c.args.reader.now) (left c.word.new.self) (word c.in_ok-word.field-0) c.in_ok-word.ensures.0
    (place.go (place.address place.noreturn)) c.in_ok-word.ensures.1 (ap place.begin_fact c.in-Noreturn.is))
    (c.noreturn_fact.ensures.read later facts)

pub returns-in-Checksum-clause-read : goal.returns-in-Checksum-clause-read
returns-in-Checksum-clause-read c =
    λ later facts.
    behind c.checksum.result _ _ _
    (by_turn (known c.args.names.now) later place.first facts (left c.args.reader.now) (left c.word.new.self) (word c.in_ok-word.field-0) c.in_ok-word.ensures.0
    (place.go (place.name)) c.in_ok-word.ensures.1 (ap place.begin_fact c.in-Checksum.is))
    (c.checksum.ensures.read (known c.args.names.now) later facts)

pub returns-in-Limit-clause-read : goal.returns-in-Limit-clause-read
returns-in-Limit-clause-read c =
    λ later facts.
    behind c.limit.result _ _ _
    (by_turn (known c.args.names.now) later place.first facts (left c.args.reader.now) (left c.word.new.self) (word c.in_ok-word.field-0) c.in_ok-word.ensures.0
    (place.go (place.term (place.left []))) c.in_ok-word.ensures.1 (ap place.begin_fact c.in-Limit.is))
    (c.limit.ensures.read later facts)

pub returns-in-To-clause-read : goal.returns-in-To-clause-read
returns-in-To-clause-read c =
    λ later facts.
    by_turn (known c.args.names.now) later place.first facts (left c.args.reader.now) (left c.word.new.self) (word c.in_ok-word.field-0) c.in_ok-word.ensures.0
    place.refused c.in_ok-word.ensures.1 (⊎_elim (ap place.begin_fact) (⊎_elim (ap place.begin_fact) (ap place.begin_fact)) c.in-To.is)
    ∙ ap (λ (p : ℕ). Err (Bad p)) (one_place (left c.args.reader.now) _ _ _ _ _ _ c.in_ok-word.ensures.1 c.place-place.ensures.1.1)
