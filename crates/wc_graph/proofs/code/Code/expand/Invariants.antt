use Rattle.std.proofs.Common.{◌≡◌, ◌≤◌, ◌<◌, length, take}
use Rattle.wc_graph.specs.Inner.Exploring.{HasTurns}
use Rattle.wc_graph.proofs.code.Code.expand.Given as goal

abbrev pub invariant-loop-turn : goal.invariant-loop-turn
invariant-loop-turn l =
    record {
      turned : HasTurns l.fn.self l.self l.place (take l.turn-index l.turns) l.leaps.items;
      few : length l.self.places.keys ≤ 100000;
      inside : l.place.frame < length l.self.frames.keys;
      same : l.self.leaps ≡ l.fn.self.leaps;
    }
