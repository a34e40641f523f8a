-- There is one merge alone, and the front of a legal history is one.
use Rattle.jt_histories.proofs.Resting.{holds_logs, merged_is, cut_is_legal}
use Rattle.jt_histories.proofs.world.merge_is_legal.Goals as goal

pub returns : goal.returns
returns g c = record {
  logs = λ world logs jobs h. holds_logs _ world logs jobs h;
  history = λ world logs jobs h k m. (merged_is _ world logs jobs h k m, cut_is_legal _ world h (merged_is _ world logs jobs h k m));
}
