use Rattle.jt_places.proofs.chain.Chain.+is_crossed.Given as goal

abbrev pub decreases-is_crossed : goal.decreases-is_crossed
decreases-is_crossed l = l.depth
