use Rattle.std.proofs.Common.{◌≡◌, replicate}
use Rattle.jt_sleep_core.specs.declared.place.Place.TheVariants.{Free}
use Rattle.jt_sleep_core.proofs.state.free_places.Given as goal

abbrev pub invariant-loop : goal.invariant-loop
invariant-loop l = l.places.items ≡ replicate l.counter Free
