use Rattle.wc_ages.specs.Slots.{age_in}
use Rattle.wc_ages.proofs.MustLemmas.{same_ages, fresh_age}
use Rattle.wc_ages.proofs.must.Must.new.Goals as goal

pub returns-clause-ages : goal.returns-clause-ages
returns-clause-ages c = same_ages c.args.ways _ (λ _. c.args.ways) (λ y. fresh_age c.args.ways c.args.ways 8 y)
