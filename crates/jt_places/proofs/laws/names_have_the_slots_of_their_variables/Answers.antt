use Rattle.jt_places.proofs.VariableLaws.{local_meant, captured_meant, means_meant}
use Rattle.jt_places.proofs.laws.names_have_the_slots_of_their_variables.Goals as goal

pub returns : goal.returns
returns c = record { assigned = local_meant; interpolated = captured_meant; used = means_meant }
