-- The history at the end of a run.
use Rattle.std.proofs.Common.{◌≡◌, ◌≤◌, List, [], ◌∷◌, ◌++◌, Option, Some, None, Bool, true, false, ◌&&◌, cond, nat_eq, length, refl, sym, ap, ◌∙◌, subst, get_or, map}
use Rattle.std.specs.Prelude.{filter}
use Rattle.std.proofs.lemmas.Bool.{false≢true, eq-eqb, and_parts}
use Rattle.jt_base.specs.declared.entry.Entry.{Entry}
use Rattle.jt_base.specs.declared.operation.Op.{Op}
use Rattle.jt_base.specs.declared.operation.Op.TheVariants as op
use Rattle.jt_base.specs.declared.run.Seeds.{Seeds}
use Rattle.jt_base.specs.Jobs.{Held}
use Rattle.jt_laws.specs.Entries.{shard, ends, In}
use Rattle.jt_laws.specs.Histories.{World}
use Rattle.jt_laws.specs.Tasks.{is_main}
use Rattle.jt_laws.specs.Lines.{is_main_end, main_end, cut_at_main_end}
use Rattle.jt_histories.specs.Merges.{IsMerge, AreLogs}
use Rattle.jt_histories.specs.Rest.{AtRest, EndsIt, MeetsLimit}
use Rattle.jt_histories.proofs.Lists.{by_test, filter_yes, filter_no}
use Rattle.jt_histories.proofs.Resting.{holds_logs, merged_is, cut_is_legal, merge_at_rest, merge_meets}
use Rattle.jt_shard.specs.Shards.{ShardState}
use Rattle.jt_meaning.specs.declared.start.Start.{Start}
use Rattle.jt_step.specs.Laws as law
use Rattle.jt_meaning.specs.Run.{Run}
use Rattle.jt_step.specs.Tasks.{Task, told_of}
use Rattle.jt_machine.specs.declared.run.End.{End}
use Rattle.jt_machine.specs.declared.run.End.TheVariants as end
use Rattle.jt_machine.specs.Machines.{first_shards, logs_of, waiting_in, AreSettled, RunState, main_end_in, end_by, Runs, Resumes, EndsBy, Ended, Grows}
use Rattle.jt_machine.specs.Runs.{world_of, IsEnd, IsRun, AllByWorkers, FurtherByWorkers, GoesOnFrom}
use Rattle.jt_machine.proofs.Entering.{end_shard}
use Rattle.jt_machine.proofs.Advancing.{not_main}
use Rattle.jt_machine.proofs.Starting.{none_begun}
use Rattle.jt_machine.proofs.Workers.{grown_none, cut_by, all_by}

-- ---- main's end in a history

no_cut : (h : List Entry) → main_end h ≡ None → cut_at_main_end h ≡ h
no_cut [] n = refl
no_cut (e ∷ es) n = by_test (is_main_end e)
    (λ y. absurd (let z : Some e.op ≡ None = sym (ap (λ b. cond b (Some e.op) (main_end es)) y) ∙ n in cc))
    (λ y. ap (λ b. e ∷ cond b [] (cut_at_main_end es)) y ∙ ap (λ l. e ∷ l) (no_cut es (sym (ap (λ b. cond b (Some e.op) (main_end es)) y) ∙ n)))

cut_twice : (h : List Entry) → cut_at_main_end (cut_at_main_end h) ≡ cut_at_main_end h
cut_twice [] = refl
cut_twice (e ∷ es) = by_end (is_main_end e) refl (cut_twice es)
  where
    by_end : (b : Bool) → is_main_end e ≡ b → cut_at_main_end (cut_at_main_end es) ≡ cut_at_main_end es → cut_at_main_end (e ∷ cond b [] (cut_at_main_end es)) ≡ e ∷ cond b [] (cut_at_main_end es)
    by_end true q r = ap (λ b. e ∷ cond b [] []) q
    by_end false q r = ap (λ b. e ∷ cond b [] (cut_at_main_end (cut_at_main_end es))) q ∙ ap (λ l. e ∷ l) r

cut_end : (h : List Entry) → main_end (cut_at_main_end h) ≡ main_end h
cut_end [] = refl
cut_end (e ∷ es) = by_end (is_main_end e) refl (cut_end es)
  where
    by_end : (b : Bool) → is_main_end e ≡ b → main_end (cut_at_main_end es) ≡ main_end es → main_end (e ∷ cond b [] (cut_at_main_end es)) ≡ cond b (Some e.op) (main_end es)
    by_end true q r = ap (λ b. cond b (Some e.op) (main_end [])) q
    by_end false q r = ap (λ b. cond b (Some e.op) (main_end (cut_at_main_end es))) q ∙ r

-- ---- main's end in the merge is that in shard 0

-- in the entries that pass a test which each end of main passes
end_in : (f : Entry → Bool) (h : List Entry) → ((x : Entry) → is_main_end x ≡ true → f x ≡ true) → main_end (filter f h) ≡ main_end h
end_in f [] t = refl
end_in f (e ∷ es) t = by_test (is_main_end e)
    (λ y. ap main_end (filter_yes f e es (t e y)) ∙ ap (λ b. cond b (Some e.op) (main_end (filter f es))) y ∙ sym (ap (λ b. cond b (Some e.op) (main_end es)) y))
    (λ n. by_test (f e)
    (λ y. ap main_end (filter_yes f e es y) ∙ ap (λ b. cond b (Some e.op) (main_end (filter f es))) n ∙ end_in f es t ∙ sym (ap (λ b. cond b (Some e.op) (main_end es)) n))
    (λ z. ap main_end (filter_no f e es z) ∙ end_in f es t ∙ sym (ap (λ b. cond b (Some e.op) (main_end es)) n)))

merge_end : (logs : List (List Entry)) (h : List Entry) → IsMerge logs h → main_end h ≡ main_end_in logs
merge_end logs h m = sym (end_in (λ x. nat_eq (shard x) 0) h (λ x y. eq-eqb (shard x) 0 (end_shard x y))) ∙ ap main_end (m.logged 0)

-- ---- the run

run_ends_it : (run : Run) (seeds : Seeds) → EndsIt Start (world_of run seeds)
run_ends_it run seeds = λ path start rs o r more e y. law.ends_it run path start rs o r more e y

module _ (run : Run) (seeds : Seeds) (shards : List (ShardState Task)) (e : End) (ended : Ended run seeds shards e) where
  pub ended_logs : AreLogs (logs_of shards)
  ended_logs = holds_logs Start (world_of run seeds) (logs_of shards) ended.jobs ended.holds

  module _ (all : List Entry) (merged : IsMerge (logs_of shards) all) where
    whole_where : main_end_in (logs_of shards) ≡ None → cut_at_main_end all ≡ all
    whole_where g = no_cut all (merge_end (logs_of shards) all merged ∙ g)

    end_where : (o : Option Op) → main_end_in (logs_of shards) ≡ o → main_end (cut_at_main_end all) ≡ o
    end_where o g = cut_end all ∙ merge_end (logs_of shards) all merged ∙ g

    is_end : (x : End) → EndsBy (world_of run seeds) (logs_of shards) ended.jobs x → IsEnd (world_of run seeds) (cut_at_main_end all) x
    is_end end.Ok w = (w.0, end_where (Some (op.End w.0)) w.1)
    is_end (end.MainFailed fault) w = end_where (Some (op.Fail fault)) w
    is_end end.Deadlock w = (
      end_where None w.0,
      subst (AtRest Start (world_of run seeds)) (sym (whole_where w.0)) (merge_at_rest Start (world_of run seeds) (run_ends_it run seeds) (logs_of shards) ended.jobs all ended.holds w.1 merged),
    )
    is_end end.EventLimit w = (
      end_where None w.0,
      subst (MeetsLimit Start (world_of run seeds)) (sym (whole_where w.0)) (merge_meets Start (world_of run seeds) (logs_of shards) ended.jobs all w.1 w.2 ended.holds w.3 w.4 merged),
    )

  pub run_is : (h all : List Entry) → IsMerge (logs_of shards) all → h ≡ cut_at_main_end all → IsRun run seeds h e
  run_is h all m q = subst (λ l. IsRun run seeds l e) (sym q) (record {
    legal = cut_is_legal Start (world_of run seeds) all (merged_is Start (world_of run seeds) (logs_of shards) ended.jobs all ended.holds m);
    whole = cut_twice all;
    ended = is_end all m e ended.ends;
  })

  -- it goes on from the logs that these have grown from
  pub run_from : (first : List (ShardState Task)) → Grows run seeds first shards → (h all : List Entry) → IsMerge (logs_of shards) all → h ≡ cut_at_main_end all → GoesOnFrom run seeds (logs_of first) h
  run_from first grows h all m q =
      let grown = grows (logs_of first) (grown_none Start (world_of run seeds) (logs_of first)) in
      let legal = merged_is Start (world_of run seeds) (logs_of shards) ended.jobs all ended.holds m in
      record {
        all = all;
        legal = legal;
        cut = q;
        begins = λ k. ((grown.begins k).0, m.logged k ∙ (grown.begins k).1);
        workers = subst (FurtherByWorkers Start (world_of run seeds) (logs_of first)) (sym q) (cut_by Start (world_of run seeds) (logs_of first) all legal (grown.workers all m));
      }

-- from shards without entries, each entry is made by its task's worker
pub run_by : (run : Run) (seeds : Seeds) (first : List (ShardState Task)) (h : List Entry) → first ≡ first_shards 16 run.limits.events → GoesOnFrom run seeds (logs_of first) h → AllByWorkers Start (world_of run seeds) h
run_by run seeds first h s g =
    all_by Start (world_of run seeds) (logs_of first) h (λ k x i. none_begun run.limits.events k x (subst (λ l. In x (get_or (logs_of l) k [])) s i)) g.workers

-- as the code finds the machine
abbrev pub run_in : RunState → Run
run_in m = m.run

abbrev pub seeds_in : RunState → Seeds
seeds_in m = m.seeds

abbrev pub shards_in : RunState → List (ShardState Task)
shards_in m = m.shards

pub adopted_is : (run0 run : Run) (seeds0 seeds : Seeds) (h : List Entry) (e : End) → run0 ≡ run → seeds0 ≡ seeds → IsRun run0 seeds0 h e → IsRun run seeds h e
adopted_is run0 run seeds0 seeds h e r s i = subst (λ x. IsRun x seeds h e) r (subst (λ x. IsRun run0 x h e) s i)

pub adopted_by : (run0 run : Run) (seeds0 seeds : Seeds) (first0 first : List (ShardState Task)) (h : List Entry) → run0 ≡ run → seeds0 ≡ seeds → first0 ≡ first → first ≡ first_shards 16 run.limits.events
    → GoesOnFrom run0 seeds0 (logs_of first0) h → AllByWorkers Start (world_of run seeds) h
adopted_by run0 run seeds0 seeds first0 first h r s f e g =
    run_by run seeds first h e
    (subst (λ x. GoesOnFrom x seeds (logs_of first) h) r (subst (λ x. GoesOnFrom run0 x (logs_of first) h) s (subst (λ x. GoesOnFrom run0 seeds0 (logs_of x) h) f g)))

-- ---- where main had ended before

end_ends : (h : List Entry) (o : Op) → main_end h ≡ Some o → ends o ≡ true
end_ends [] o q = absurd (cc)
end_ends (e ∷ es) o q = by_test (is_main_end e)
    (λ y. let z : Some e.op ≡ Some o = sym (ap (λ b. cond b (Some e.op) (main_end es)) y) ∙ q in
    let same : e.op ≡ o = cc in
    ap ends (sym same) ∙ (and_parts (ends e.op) (is_main e.task) y).0)
    (λ n. end_ends es o (sym (ap (λ b. cond b (Some e.op) (main_end es)) n) ∙ q))

none_by : (m : Option Op) → ((o : Op) → m ≡ Some o → ends o ≡ true) → end_by m ≡ None → m ≡ None
none_by None t q = refl
none_by (Some (op.End value)) t q = absurd (cc)
none_by (Some (op.Fail fault)) t q = absurd (cc)
none_by (Some o) t q = absurd (false≢true (t o refl))

ends_so : (world : World Start) (logs : List (List Entry)) (jobs : List (Held Start)) (m : Option Op) (e : End) → main_end_in logs ≡ m → end_by m ≡ Some e → EndsBy world logs jobs e
ends_so world logs jobs None e q p = absurd (cc)
ends_so world logs jobs (Some (op.End value)) e q p = let s : end.Ok ≡ e = cc in subst (EndsBy world logs jobs) s (value, q)
ends_so world logs jobs (Some (op.Fail fault)) e q p = let s : end.MainFailed fault ≡ e = cc in subst (EndsBy world logs jobs) s q
ends_so world logs jobs (Some o) e q p = absurd (cc)

-- entry by entry
pub end_past : (e : Entry) (es : List Entry) → None ≡ end_by (main_end (e ∷ [])) → end_by (main_end (e ∷ es)) ≡ end_by (main_end es)
end_past e es n = by_test (is_main_end e)
    (λ y. let one : main_end (e ∷ []) ≡ Some e.op = ap (λ b. cond b (Some e.op) None) y in
    absurd (let z : Some e.op ≡ None = sym one ∙ none_by (main_end (e ∷ [])) (end_ends (e ∷ [])) (sym n) in cc))
    (λ y. ap (λ b. end_by (cond b (Some e.op) (main_end es))) y)

pub end_here : (e : Entry) (es : List Entry) (x : End) → Some x ≡ end_by (main_end (e ∷ [])) → Some x ≡ end_by (main_end (e ∷ es))
end_here e es x q = by_test (is_main_end e)
    (λ y. q ∙ ap (λ b. end_by (cond b (Some e.op) None)) y ∙ sym (ap (λ b. end_by (cond b (Some e.op) (main_end es))) y))
    (λ y. absurd (let z : Some x ≡ None = q ∙ ap (λ b. end_by (cond b (Some e.op) None)) y in cc))

pub no_main : (e : Entry) → nat_eq (length e.task) 0 ≡ false → None ≡ end_by (main_end (e ∷ []))
no_main e n = sym (ap (λ b. end_by (cond (ends e.op && b) (Some e.op) None)) (not_main e.task n) ∙ ap (λ b. end_by (cond b (Some e.op) None)) (never (ends e.op)))
  where
    never : (b : Bool) → b && false ≡ false
    never true = refl
    never false = refl

module _ (run : Run) (seeds : Seeds) (shards : List (ShardState Task)) (ready : List Task) (r : Resumes run seeds shards ready) where
  pub resumes_ended : (m : Option End) (e : End) → m ≡ end_by (main_end_in (logs_of shards)) → m ≡ Some e → Ended run seeds shards e
  resumes_ended m e q p = record {
    jobs = map told_of (ready ++ waiting_in shards);
    holds = r.holds;
    ends = ends_so (world_of run seeds) (logs_of shards) (map told_of (ready ++ waiting_in shards)) (main_end_in (logs_of shards)) e refl (sym q ∙ p);
  }

  pub resumes_runs : (m : Option End) → 1 ≤ run.sizes.default → m ≡ end_by (main_end_in (logs_of shards)) → m ≡ None → Runs run seeds shards ready
  resumes_runs m d q p = record {
    sixteen = r.sixteen;
    worker = d;
    each_shard = λ k s e. (r.each_shard k s e).shard;
    each_job = r.each_job;
    holds = r.holds;
    goes_on = none_by (main_end_in (logs_of shards)) (end_ends (get_or (logs_of shards) 0 [])) (sym q ∙ p);
  }

  pub resumes_settled : AreSettled shards
  resumes_settled k s e = (r.each_shard k s e).settled
