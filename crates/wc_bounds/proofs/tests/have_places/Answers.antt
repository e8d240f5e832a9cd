use Rattle.wc_bounds.proofs.tests.have_places.Goals as goal

pub returns : goal.returns
returns c = λ after.
    let heads = rw (c.items.ensures, c.items-2.ensures) at c.are_nodes.ensures in
    let placed = rw (c.items-3.ensures, c.items-4.ensures) at c.are_placed.ensures in
    let parents = rw c.items-5.ensures at c.come_after_parents.ensures in
    record { heads = heads c.if-not-are_nodes.false; placed = placed c.if-not-are_placed.false; parents = parents after }
