-- The lists of workers and of queues, as ranges.
use Rattle.std.proofs.Common.{◌≡◌, ℕ, ◌+◌, ◌-◌, ◌*◌, ◌<◌, ◌≤◌, eqb, ltb, leb, Bool, true, [], ◌∷◌, ◌++◌, refl, ap, ◌∙◌, arith}
use Rattle.std.specs.List.{filter, range_with_len}
use Rattle.std.proofs.lemmas.Bool.{cond-true, cond-false, lt-ltb, le-ltb, le-leb, lt-leb, eq-eqb, ne_eqb}
use Rattle.std.proofs.lemmas.List.Elements.{filter-append}
use Rattle.std.proofs.lemmas.List.{append-nil}
use Rattle.jt_base.specs.declared.run.Sizes.{Sizes}
use Rattle.jt_sleep_core.specs.Numbering.{workers, heaps, line_of, stop_queue, IsWorker, serves, served, own_queues}
use Rattle.jt_sleep_core.proofs.Ranges.{range-append, filter-range_all, filter-range_none, filter-range_one}

module _ (sizes : Sizes) where
  -- ---- whom each sort of queue serves

  at_default : (queue worker : ℕ) → queue < 2 * sizes.default → serves sizes queue worker ≡ ltb worker sizes.default
  at_default queue worker h = cond-true (ltb queue (2 * sizes.default)) _ _ (lt-ltb queue (2 * sizes.default) h)

  at_interactive : (queue worker : ℕ) → 2 * sizes.default ≤ queue → queue < heaps sizes → serves sizes queue worker ≡ leb sizes.default worker
  at_interactive queue worker low high =
      cond-false (ltb queue (2 * sizes.default)) _ _ (le-ltb queue (2 * sizes.default) low) ∙ cond-true (ltb queue (heaps sizes)) _ _ (lt-ltb queue (heaps sizes) high)

  at_line : (queue worker : ℕ) → heaps sizes ≤ queue → queue < stop_queue sizes → serves sizes queue worker ≡ eqb queue (line_of sizes worker)
  at_line queue worker low high =
      cond-false (ltb queue (2 * sizes.default)) _ _ (le-ltb queue (2 * sizes.default) (omega arith))
      ∙ (cond-false (ltb queue (heaps sizes)) _ _ (le-ltb queue (heaps sizes) low) ∙ cond-true (ltb queue (stop_queue sizes)) _ _ (lt-ltb queue (stop_queue sizes) high))

  at_stop : (queue worker : ℕ) → queue ≡ stop_queue sizes → serves sizes queue worker ≡ true
  at_stop queue worker e =
      cond-false (ltb queue (2 * sizes.default)) _ _ (le-ltb queue (2 * sizes.default) (omega arith))
      ∙ (cond-false (ltb queue (heaps sizes)) _ _ (le-ltb queue (heaps sizes) (omega arith))
      ∙ (cond-false (ltb queue (stop_queue sizes)) _ _ (le-ltb queue (stop_queue sizes) (omega arith)) ∙ eq-eqb queue (stop_queue sizes) e))

  -- ---- the workers that a queue serves

  split_workers : (p : ℕ → Bool) → filter p (range_with_len 0 (workers sizes)) ≡ filter p (range_with_len 0 sizes.default) ++ filter p (range_with_len sizes.default sizes.interactive)
  split_workers p = ap (filter p) (range-append 0 sizes.default sizes.interactive sizes.default (omega arith)) ∙ filter-append p (range_with_len 0 sizes.default) _

  pub served_default : (queue : ℕ) → queue < 2 * sizes.default → served sizes queue ≡ range_with_len 0 sizes.default
  served_default queue h =
      let p = λ (w : ℕ). serves sizes queue w in
      split_workers p
      ∙ (ap (λ xs. xs ++ filter p (range_with_len sizes.default sizes.interactive)) (filter-range_all p 0 sizes.default (λ k l u. at_default queue k h ∙ lt-ltb k sizes.default (omega arith)))
      ∙ (ap (λ xs. range_with_len 0 sizes.default ++ xs) (filter-range_none p sizes.default sizes.interactive (λ k l u. at_default queue k h ∙ le-ltb k sizes.default l)) ∙ append-nil _))

  pub served_interactive : (queue : ℕ) → 2 * sizes.default ≤ queue → queue < heaps sizes → served sizes queue ≡ range_with_len sizes.default sizes.interactive
  served_interactive queue low high =
      let p = λ (w : ℕ). serves sizes queue w in
      split_workers p
      ∙ (ap (λ xs. xs ++ filter p (range_with_len sizes.default sizes.interactive)) (filter-range_none p 0 sizes.default (λ k l u. at_interactive queue k low high ∙ lt-leb sizes.default k (omega arith)))
      ∙ filter-range_all p sizes.default sizes.interactive (λ k l u. at_interactive queue k low high ∙ le-leb sizes.default k l))

  pub served_line : (queue : ℕ) → heaps sizes ≤ queue → queue < stop_queue sizes → served sizes queue ≡ (queue - heaps sizes) ∷ []
  served_line queue low high =
      filter-range_one (λ w. serves sizes queue w) 0 (workers sizes) (queue - heaps sizes) (omega arith) (omega arith)
      (at_line queue (queue - heaps sizes) low high ∙ eq-eqb queue _ (omega arith))
      (λ k ne l u. at_line queue k low high ∙ ne_eqb queue _ (λ (e : queue ≡ line_of sizes k). ne (omega arith)))

  pub served_stop : (queue : ℕ) → queue ≡ stop_queue sizes → served sizes queue ≡ range_with_len 0 (workers sizes)
  served_stop queue e = filter-range_all (λ w. serves sizes queue w) 0 (workers sizes) (λ k l u. at_stop queue k e)

  -- ---- a worker's own queues

  split_queues : (p : ℕ → Bool) → filter p (range_with_len 0 (stop_queue sizes + 1))
      ≡ filter p (range_with_len 0 (2 * sizes.default)) ++ (filter p (range_with_len (2 * sizes.default) (2 * sizes.interactive)) ++ (filter p (range_with_len (heaps sizes) (workers sizes)) ++ filter p (range_with_len (stop_queue sizes) 1)))
  split_queues p =
      let a : stop_queue sizes + 1 ≡ 2 * sizes.default + (2 * sizes.interactive + (workers sizes + 1)) = omega arith in
      ap (λ n. filter p (range_with_len 0 n)) a
      ∙ (ap (filter p) (range-append 0 (2 * sizes.default) (2 * sizes.interactive + (workers sizes + 1)) (2 * sizes.default) (omega arith))
      ∙ (filter-append p (range_with_len 0 (2 * sizes.default)) _
      ∙ ap (λ xs. filter p (range_with_len 0 (2 * sizes.default)) ++ xs)
      (ap (filter p) (range-append (2 * sizes.default) (2 * sizes.interactive) (workers sizes + 1) (heaps sizes) (omega arith))
      ∙ (filter-append p (range_with_len (2 * sizes.default) (2 * sizes.interactive)) _
      ∙ ap (λ xs. filter p (range_with_len (2 * sizes.default) (2 * sizes.interactive)) ++ xs)
      (ap (filter p) (range-append (heaps sizes) (workers sizes) 1 (stop_queue sizes) (omega arith)) ∙ filter-append p (range_with_len (heaps sizes) (workers sizes)) _)))))

  own_line : (worker : ℕ) → IsWorker sizes worker → filter (λ q. serves sizes q worker) (range_with_len (heaps sizes) (workers sizes)) ≡ line_of sizes worker ∷ []
  own_line worker known =
      filter-range_one (λ q. serves sizes q worker) (heaps sizes) (workers sizes) (line_of sizes worker) (omega arith) (omega arith)
      (at_line (line_of sizes worker) worker (omega arith) (omega arith) ∙ eq-eqb _ _ refl)
      (λ k ne l u. at_line k worker l (omega arith) ∙ ne_eqb k _ ne)

  own_stop : (worker : ℕ) → filter (λ q. serves sizes q worker) (range_with_len (stop_queue sizes) 1) ≡ stop_queue sizes ∷ []
  own_stop worker = filter-range_all (λ q. serves sizes q worker) (stop_queue sizes) 1 (λ k l u. at_stop k worker (omega arith))

  pub own_default : (worker : ℕ) → worker < sizes.default → own_queues sizes worker ≡ range_with_len 0 (2 * sizes.default) ++ line_of sizes worker ∷ stop_queue sizes ∷ []
  own_default worker known =
      let p = λ (q : ℕ). serves sizes q worker in
      let here : filter p (range_with_len 0 (2 * sizes.default)) ≡ range_with_len 0 (2 * sizes.default)
      = filter-range_all p 0 (2 * sizes.default) (λ k l u. at_default k worker (omega arith) ∙ lt-ltb worker sizes.default known) in
      let none : filter p (range_with_len (2 * sizes.default) (2 * sizes.interactive)) ≡ []
      = filter-range_none p (2 * sizes.default) (2 * sizes.interactive) (λ k l u. at_interactive k worker l (omega arith) ∙ lt-leb sizes.default worker known) in
      let line = own_line worker (omega arith) in
      let stop = own_stop worker in
      split_queues p ∙ cc

  pub own_interactive : (worker : ℕ) → sizes.default ≤ worker → IsWorker sizes worker → own_queues sizes worker ≡ range_with_len (2 * sizes.default) (2 * sizes.interactive) ++ line_of sizes worker ∷ stop_queue sizes ∷ []
  own_interactive worker low known =
      let p = λ (q : ℕ). serves sizes q worker in
      let none : filter p (range_with_len 0 (2 * sizes.default)) ≡ []
      = filter-range_none p 0 (2 * sizes.default) (λ k l u. at_default k worker (omega arith) ∙ le-ltb worker sizes.default low) in
      let here : filter p (range_with_len (2 * sizes.default) (2 * sizes.interactive)) ≡ range_with_len (2 * sizes.default) (2 * sizes.interactive)
      = filter-range_all p (2 * sizes.default) (2 * sizes.interactive) (λ k l u. at_interactive k worker l (omega arith) ∙ le-leb sizes.default worker low) in
      let line = own_line worker known in
      let stop = own_stop worker in
      split_queues p ∙ cc
