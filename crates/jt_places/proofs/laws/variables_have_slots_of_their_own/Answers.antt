use Rattle.jt_places.proofs.VariableLaws.{place_below, place_apart}
use Rattle.jt_places.proofs.laws.variables_have_slots_of_their_own.Goals as goal

pub returns : goal.returns
returns c = record { below = place_below; apart = place_apart }
