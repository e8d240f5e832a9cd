use Rattle.wc_hw.proofs.reading.with_cache.Goals as goal

pub returns-clause-classes : goal.returns-clause-classes
returns-clause-classes c = λ d h. record {
  alu = h.alu;
  mul = h.mul;
  div = h.div;
  load = h.load;
  store = h.store;
  multi = h.multi;
  branch = h.branch;
  system = h.system;
  taken = h.taken;
  per_register = h.per_register;
}
