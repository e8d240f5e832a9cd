-- What was found, by its numbers.
use Rattle.std.specs.Prelude.{List}
use Rattle.wc_graph.specs.declared.frames.Place.{Place}

pub record Found : Type 0 where
  pub keys : List Place
