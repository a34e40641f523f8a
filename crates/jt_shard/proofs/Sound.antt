-- The posts after a list of entries: what they answer, and what keeps them so.
use Rattle.std.proofs.Common.{◌≡◌, ℕ, ◌<◌, ◌^◌, List, [], ◌∷◌, ◌++◌, Option, Some, None, Bool, false, refl, sym, ap, ◌∙◌, subst, cond, get_or, length, arith}
use Rattle.std.specs.Prelude.{MatchBool, filter, not, ◌+◌}
use Rattle.std.specs.List.{All}
use Rattle.std.proofs.lemmas.List.Elements.{All-nil, All-push, All-tail, All-append}
use Rattle.std.proofs.lemmas.List.Filters.{length-filter_both}
use Rattle.jt_base.specs.declared.operation.Op.{Op}
use Rattle.jt_base.specs.declared.operation.Reply.{Reply}
use Rattle.jt_base.specs.declared.entry.Entry.{Entry}
use Rattle.jt_base.specs.declared.entry.Ask.{Ask}
use Rattle.jt_base.specs.Jobs.{Held}
use Rattle.jt_base.specs.declared.object.Object.{Object}
use Rattle.jt_base.specs.Objects.{object_of}
use Rattle.jt_laws.specs.Entries.{same_object, object, of_object}
use Rattle.jt_laws.specs.Objects.{reply_after, IsLawful, AreLawful, answer_of}
use Rattle.jt_laws.proofs.Lawful.{lawful_push}
use Rattle.jt_histories.proofs.Lists.{by_test, same_object_refl, same_object_true, filter_push_yes, filter_push_no}
use Rattle.jt_objects.specs.States.{left_by}
use Rattle.jt_objects.specs.Needs.{state_of, IsWithin}
use Rattle.jt_objects.proofs.Within.{within}
use Rattle.jt_shard.specs.declared.post.Post.{Post}
use Rattle.jt_shard.specs.Asking.{Allows, Refuses}
use Rattle.jt_shard.specs.Changing.{changes}
use Rattle.jt_shard.specs.Shards.{object_for, reply_now, MustWait}
use Rattle.jt_shard.specs.Posts.{touched_by, equal_objects, object_at, post_at, with_post, line_of, waiting_in, KeepsOrMakesPost, KeepsPosts, AsksPost, JoinsPost, AllowsJob, RefusesJob, FirstLeaves, IsPost, IsPostIf, ArePosts}
use Rattle.jt_shard.proofs.Asked.{allowed_at, refused_at, matched}
use Rattle.jt_shard.proofs.Refusals.{keeps_refusals}
use Rattle.jt_shard.proofs.Posted.{same_waiting}
use Rattle.jt_shard.proofs.Split.{equal_same, apart, None≢Some, All-left, All-right, all_waiting, waiting_all, each_entry, found_entry, with_distinct, at_other}

-- an object's entries with one more entry
pub own_here : (o : Object) (log : List Entry) (e : Entry) → object e ≡ o → of_object o (log ++ e ∷ []) ≡ of_object o log ++ e ∷ []
own_here o log e is =
    filter_push_yes (λ (x : Entry). same_object (object x) o) log e (ap (λ x. same_object x o) is ∙ same_object_refl o)

pub own_elsewhere : (o : Object) (log : List Entry) (e : Entry) → same_object (object e) o ≡ false → of_object o (log ++ e ∷ []) ≡ of_object o log
own_elsewhere o log e n = filter_push_no (λ (x : Entry). same_object (object x) o) log e n

pub some_same : (o q : Object) → Some o ≡ Some q → o ≡ q
some_same o q e = cc

lawful_more : (log : List Entry) (e : Entry) (q : Object) → IsLawful (of_object q log) → reply_after (of_object (object e) log) e.task e.op ≡ Some e.reply → IsLawful (of_object q (log ++ e ∷ []))
lawful_more log e q l r = by_test (same_object (object e) q)
    (λ t. let is = same_object_true (object e) q t in
    subst IsLawful (sym (own_here q log e is)) (lawful_push (of_object q log) e l (ap (λ o. reply_after (of_object o log) e.task e.op) (sym is) ∙ r)))
    (λ f. subst IsLawful (sym (own_elsewhere q log e f)) l)

module _ {J S : Type 0} (told : J → Held S) where
  pub post_is : (log : List Entry) (t : Option Object) (posts : List (Object × Post J)) (o : Object) (post : Post J) → ArePosts told log t posts → post_at posts o ≡ Some post → IsPost told log t o post
  post_is log t posts o post a e = subst (IsPostIf told log t o) e (a.each o)

  -- after fewer than 2^32 entries the numbers in a post are small
  pub small_at : (log : List Entry) (t : Option Object) (posts : List (Object × Post J)) (o : Object) (task : List ℕ) (op : Op) → ArePosts told log t posts → length log < 2 ^ 32 → (post : Post J) → post_at posts o ≡ Some post → IsWithin (state_of post.state) task op
  small_at log t posts o task op a few post there =
      let both : length (of_object o log) + length (filter (λ (x : Entry). not (same_object (object x) o)) log) ≡ length log = length-filter_both (λ (x : Entry). same_object (object x) o) (λ (x : Entry). not (same_object (object x) o)) (λ x. refl) log in
      within o (of_object o log) (state_of post.state) task op (a.lawful o) (post_is log t posts o post a there).state (omega (arith, both, few))

  -- what a post allows or refuses a job
  pub allowed_now : (log : List Entry) (t : Option Object) (o : Object) (post : Post J) (w : J × Op) → AreLawful log → IsPost told log t o post → object_for told w.0 w.1 ≡ o → AllowsJob told post w → (r : Reply) × (reply_now told log w.0 w.1 ≡ Some r)
  allowed_now log t o post w l p is a =
      let r = allowed_at log post.state (told w.0).path w.1 o is l p.state a in
      (r.0, ap (λ x. reply_after (of_object x log) (told w.0).path w.1) is ∙ r.1)

  refused_now : (log : List Entry) (t : Option Object) (o : Object) (post : Post J) (w : J × Op) → AreLawful log → IsPost told log t o post → object_for told w.0 w.1 ≡ o → RefusesJob told post w → MustWait told log w
  refused_now log t o post w l p is a =
      ap (λ x. reply_after (of_object x log) (told w.0).path w.1) is ∙ refused_at log post.state (told w.0).path w.1 o is l p.state a

  pub all_refused : (log : List Entry) (t : Option Object) (o : Object) (post : Post J) (ws : List (J × Op)) → AreLawful log → IsPost told log t o post → All (λ w. object_for told w.0 w.1 ≡ o) ws → All (RefusesJob told post) ws → All (MustWait told log) ws
  all_refused log t o post ws l p is a = λ k d i. refused_now log t o post (get_or ws k d) l p (is k d i) (a k d i)

  -- a job elsewhere must wait after one more entry, if it had to before
  still_waits : (log : List Entry) (e : Entry) (q : Object) (w : J × Op) → same_object (object e) q ≡ false → object_for told w.0 w.1 ≡ q → MustWait told log w → MustWait told (log ++ e ∷ []) w
  still_waits log e q w n o m =
      ap (λ l. reply_after l (told w.0).path w.1) (own_elsewhere (object_for told w.0 w.1) log e (ap (same_object (object e)) o ∙ n)) ∙ m

  elsewhere : (log : List Entry) (e : Entry) (t : Option Object) (q : Object) (o : Option (Post J)) → same_object (object e) q ≡ false → IsPostIf told log None q o → IsPostIf told (log ++ e ∷ []) t q o
  elsewhere log e t q None n p = own_elsewhere q log e n ∙ p
  elsewhere log e t q (Some post) n p = record {
    state = ap (left_by q) (own_elsewhere q log e n) ∙ p.state;
    here = p.here;
    settled = λ _ k d l. still_waits log e q (get_or post.waiting.items k d) n (p.here k d l) (p.settled (None≢Some q) k d l);
  }

  -- a job here must wait after an entry that changes nothing
  still_refused : (log : List Entry) (e : Entry) (o : Object) (w : J × Op) → object e ≡ o → changes e.op ≡ false → reply_after (of_object o log) e.task e.op ≡ Some e.reply → object_for told w.0 w.1 ≡ o → MustWait told log w → MustWait told (log ++ e ∷ []) w
  still_refused log e o w is n r q m =
      ap (λ x. reply_after (of_object x (log ++ e ∷ [])) (told w.0).path w.1) q ∙ ap (λ l. reply_after l (told w.0).path w.1) (own_here o log e is)
      ∙ keeps_refusals e.op n (of_object o log) e (told w.0).path w.1 refl r (q ∙ sym is) (ap (λ x. reply_after (of_object x log) (told w.0).path w.1) (sym q) ∙ m)

  -- an entry touches those who wait for its object where it changes the object
  entered_here : (log : List Entry) (o : Object) (before after : Post J) (e : Entry) → IsPost told log None o before → object e ≡ o → reply_after (of_object o log) e.task e.op ≡ Some e.reply
      → left_by o (of_object o log ++ e ∷ []) ≡ Some (state_of after.state) → after.waiting ≡ before.waiting → IsPost told (log ++ e ∷ []) (touched_by o e.op) o after
  entered_here log o before after e p is r s w = record {
    state = ap (left_by o) (own_here o log e is) ∙ s;
    here = subst (λ v. All (λ x. object_for told x.0 x.1 ≡ o) v.items) (sym w) p.here;
    settled = λ n. subst (λ v. All (MustWait told (log ++ e ∷ [])) v.items) (sym w)
        (by_test (changes e.op)
        (λ y. absurd (n (ap (λ b. cond b (Some o) None) y)))
        (λ f. λ k d l. still_refused log e o (get_or before.waiting.items k d) is f r (p.here k d l) (p.settled (None≢Some o) k d l)));
  }

  other_object : (o q e : Object) → e ≡ o → equal_objects o q ≡ false → same_object e q ≡ false
  other_object o q e is f = by_test (same_object e q) (λ y. absurd (apart o q f (sym is ∙ same_object_true e q y))) (λ n. n)

  entered : (log : List Entry) (posts : List (Object × Post J)) (o : Object) (before after : Post J) (e : Entry) → post_at posts o ≡ Some before → object e ≡ o → reply_after (of_object o log) e.task e.op ≡ Some e.reply
      → left_by o (of_object o log ++ e ∷ []) ≡ Some (state_of after.state) → after.waiting ≡ before.waiting → ArePosts told log None posts → ArePosts told (log ++ e ∷ []) (touched_by o e.op) (with_post posts o after)
  entered log posts o before after e there is r s w a =
      let t : Option Object = touched_by o e.op in
      record {
        distinct = with_distinct posts o after a.distinct;
        lawful = λ q. lawful_more log e q (a.lawful q) (ap (λ x. reply_after (of_object x log) e.task e.op) is ∙ r);
        each = λ q. subst (IsPostIf told (log ++ e ∷ []) t q) (sym (at_other posts o before after there q))
            (by_test (equal_objects o q)
            (λ y. subst (IsPostIf told (log ++ e ∷ []) t q) (ap (λ b. cond b (Some after) (post_at posts q)) (sym y))
            (subst (λ x. IsPostIf told (log ++ e ∷ []) t x (Some after)) (equal_same o q y)
            (entered_here log o before after e (post_is log None posts o before a there) is r s w)))
            (λ f. subst (IsPostIf told (log ++ e ∷ []) t q) (ap (λ b. cond b (Some after) (post_at posts q)) (sym f))
            (elsewhere log e t q (post_at posts q) (other_object o q (object e) is f) (a.each q))));
      }

  -- an object that is asked answers by its law
  pub asked_answer : (log : List Entry) (posts more : List (Object × Post J)) (o : Object) (task : List ℕ) (op : Op) (answer : Ask) → AsksPost posts o task op answer more → object_of task op ≡ o → ArePosts told log None posts → answer ≡ answer_of (reply_after (of_object o log) task op)
  asked_answer log posts more o task op answer k is a =
      let p = post_is log None posts o k.before a k.there in
      k.law.answers (of_object (object_of task op) log) (a.lawful (object_of task op)) (subst (λ x. left_by x (of_object x log) ≡ Some (state_of k.before.state)) (sym is) p.state)
      ∙ ap (λ x. answer_of (reply_after (of_object x log) task op)) is

  -- and the posts after the entry are those of the longer log
  pub asked_moves : (log : List Entry) (posts more : List (Object × Post J)) (o : Object) (task : List ℕ) (op : Op) (answer : Ask) (e : Entry) → AsksPost posts o task op answer more → object_of task op ≡ o → e.task ≡ task → e.op ≡ op
      → reply_after (of_object o log) task op ≡ Some e.reply → ArePosts told log None posts → ArePosts told (log ++ e ∷ []) (touched_by o op) more
  asked_moves log posts more o task op answer e k is t by r a =
      let p = post_is log None posts o k.before a k.there in
      let mine = k.law.moves (of_object (object_of task op) log) e (a.lawful (object_of task op)) (subst (λ x. left_by x (of_object x log) ≡ Some (state_of k.before.state)) (sym is) p.state) t by (ap (λ x. reply_after (of_object x log) task op) is ∙ r) in
      let here : object e ≡ o = ap (λ x. object_of x e.op) t ∙ ap (object_of task) by ∙ is in
      subst (λ x. ArePosts told (log ++ e ∷ []) x more) (ap (touched_by o) by)
      (subst (ArePosts told (log ++ e ∷ []) (touched_by o e.op)) (sym k.is)
      (entered log posts o k.before k.after e k.there here (ap (λ x. reply_after (of_object o log) x e.op) t ∙ ap (reply_after (of_object o log) task) by ∙ r)
      (subst (λ x. left_by x (of_object x log ++ e ∷ []) ≡ Some (state_of k.after.state)) is mine) k.waiting a))

  -- the same jobs wait
  pub asked_waiting : (log : List Entry) (t : Option Object) (posts more : List (Object × Post J)) (o : Object) (task : List ℕ) (op : Op) (answer : Ask) → AsksPost posts o task op answer more → ArePosts told log t posts → waiting_in more ≡ waiting_in posts
  asked_waiting log t posts more o task op answer k a =
      same_waiting posts o k.before k.after more a.distinct (sym k.there) (ap (λ v. v.items) k.waiting) k.is

  -- whether an operation is allowed at its object
  pub allows_at : (log : List Entry) (posts : List (Object × Post J)) (o : Object) (task : List ℕ) (op : Op) (post : Post J) (result : Bool) → object_of task op ≡ o → post_at posts o ≡ Some post → MatchBool result (Allows post.state task op) (Refuses post.state task op) → ArePosts told log None posts
      → MatchBool result ((r : Reply) × (reply_after (of_object o log) task op ≡ Some r)) (reply_after (of_object o log) task op ≡ None)
  allows_at log posts o task op post result is there m a =
      let p = post_is log None posts o post a there in
      matched result m (allowed_at log post.state task op o is a.lawful p.state) (refused_at log post.state task op o is a.lawful p.state)

  -- what holds of the posts when no job is allowed
  with_settled : (log : List Entry) (t : Option Object) (q : Object) (o : Option (Post J)) → IsPostIf told log t q o → ((post : Post J) → o ≡ Some post → All (MustWait told log) post.waiting.items) → IsPostIf told log None q o
  with_settled log t q None p f = p
  with_settled log t q (Some post) p f = record { state = p.state; here = p.here; settled = λ _. f post refl }

  pub settle : (log : List Entry) (t : Option Object) (posts : List (Object × Post J)) → ArePosts told log t posts → All (MustWait told log) (waiting_in posts) → ArePosts told log None posts
  settle log t posts a w = record {
    distinct = a.distinct;
    lawful = a.lawful;
    each = λ q. with_settled log t q (post_at posts q) (a.each q) (λ post e. found_entry (λ x. All (MustWait told log) (line_of x)) posts q post (waiting_all (MustWait told log) posts w) e);
  }

  pub all_must_wait : (log : List Entry) (posts : List (Object × Post J)) → ArePosts told log None posts → All (MustWait told log) (waiting_in posts)
  all_must_wait log posts a =
      all_waiting (MustWait told log) posts (each_entry (λ q v. All (MustWait told log) v.waiting.items) posts a.distinct (λ q v e. (post_is log None posts q v a e).settled (None≢Some q)))

  -- where the touched object refuses all its jobs, none is allowed
  pub untouched : (log : List Entry) (o : Object) (posts : List (Object × Post J)) → ArePosts told log (Some o) posts → ((post : Post J) → post_at posts o ≡ Some post → All (RefusesJob told post) post.waiting.items) → ArePosts told log None posts
  untouched log o posts a r = record {
    distinct = a.distinct;
    lawful = a.lawful;
    each = λ q. with_settled log (Some o) q (post_at posts q) (a.each q)
        (λ post e. by_test (equal_objects o q)
        (λ t. let there : post_at posts o ≡ Some post = ap (post_at posts) (equal_same o q t) ∙ e in
        let p = post_is log (Some o) posts o post a there in
        all_refused log (Some o) o post post.waiting.items a.lawful p p.here (r post there))
        (λ f. (post_is log (Some o) posts q post a e).settled (λ s. apart o q f (some_same o q s))));
  }

  kept_post : (log : List Entry) (t : Option Object) (q : Object) (o n : Option (Post J)) → IsPostIf told log t q o → KeepsOrMakesPost q o n → IsPostIf told log t q n
  kept_post log t q None None p g = p
  kept_post log t q None (Some b) p g = record {
    state = ap (left_by q) p ∙ g.state;
    here = subst (All (λ w. object_for told w.0 w.1 ≡ q)) (sym g.waiting) (All-nil (λ w. object_for told w.0 w.1 ≡ q));
    settled = λ _. subst (All (MustWait told log)) (sym g.waiting) (All-nil (MustWait told log));
  }
  kept_post log t q (Some a) None p g = absurd g
  kept_post log t q (Some a) (Some b) p g = record {
    state = p.state ∙ ap Some (sym g.state);
    here = subst (All (λ w. object_for told w.0 w.1 ≡ q)) (sym g.waiting) p.here;
    settled = λ n. subst (All (MustWait told log)) (sym g.waiting) (p.settled n);
  }

  kept_are : (log : List Entry) (t : Option Object) (posts more : List (Object × Post J)) → ArePosts told log t posts → KeepsPosts posts more → ArePosts told log t more
  kept_are log t posts more a g = record {
    distinct = g.distinct a.distinct;
    lawful = a.lawful;
    each = λ q. kept_post log t q (post_at posts q) (post_at more q) (a.each q) (g.each q);
  }

  -- what is touched besides
  retouched : (log : List Entry) (t u : Option Object) (posts : List (Object × Post J)) → ((o : Object) → t ≡ Some o → u ≡ Some o) → ArePosts told log t posts → ArePosts told log u posts
  retouched log t u posts f a = record {
    distinct = a.distinct;
    lawful = a.lawful;
    each = λ q. retouched_post log t u q (post_at posts q) (f q) (a.each q);
  }
    where
      retouched_post : (log : List Entry) (t u : Option Object) (q : Object) (o : Option (Post J)) → (t ≡ Some q → u ≡ Some q) → IsPostIf told log t q o → IsPostIf told log u q o
      retouched_post log t u q None f p = p
      retouched_post log t u q (Some post) f p = record { state = p.state; here = p.here; settled = λ n. p.settled (λ e. n (f e)) }

  -- what is touched stays at its index
  pub kept_at : (log : List Entry) (i : Option ℕ) (posts more : List (Object × Post J)) → ArePosts told log (object_at posts i) posts → KeepsPosts posts more → ArePosts told log (object_at more i) more
  kept_at log i posts more a g = retouched log (object_at posts i) (object_at more i) more (g.objects i) (kept_are log (object_at posts i) posts more a g)

  -- another post of an object in the same log
  pub replaced : (log : List Entry) (t : Option Object) (posts : List (Object × Post J)) (o : Object) (before after : Post J) → ArePosts told log t posts → post_at posts o ≡ Some before → IsPost told log t o after → ArePosts told log t (with_post posts o after)
  replaced log t posts o before after a there p = record {
    distinct = with_distinct posts o after a.distinct;
    lawful = a.lawful;
    each = λ q. subst (IsPostIf told log t q) (sym (at_other posts o before after there q))
        (by_test (equal_objects o q)
        (λ y. subst (IsPostIf told log t q) (ap (λ b. cond b (Some after) (post_at posts q)) (sym y)) (subst (λ x. IsPostIf told log t x (Some after)) (equal_same o q y) p))
        (λ f. subst (IsPostIf told log t q) (ap (λ b. cond b (Some after) (post_at posts q)) (sym f)) (a.each q)));
  }

  pub joined_are : (log : List Entry) (t : Option Object) (posts joined : List (Object × Post J)) (o : Object) (w : J × Op) → ArePosts told log t posts → JoinsPost posts o w joined → object_for told w.0 w.1 ≡ o → MustWait told log w → ArePosts told log t joined
  joined_are log t posts joined o w a j is m =
      let p = post_is log t posts o j.before a j.there in
      subst (ArePosts told log t) (sym j.is)
      (replaced log t posts o j.before j.after a j.there (record {
        state = p.state ∙ ap (λ s. Some (state_of s)) (sym j.state);
        here = subst (All (λ x. object_for told x.0 x.1 ≡ o)) (sym j.waiting) (All-push (λ x. object_for told x.0 x.1 ≡ o) j.before.waiting.items w p.here is);
        settled = λ n. subst (All (MustWait told log)) (sym j.waiting) (All-push (MustWait told log) j.before.waiting.items w (p.settled n) m);
      }))

  without : (P : J × Op → Type 0) (front : List (J × Op)) (w : J × Op) (back : List (J × Op)) → All P (front ++ w ∷ back) → All P (front ++ back)
  without P front w back h =
      All-append P front back (All-left P front (w ∷ back) h) (All-tail P w back (All-right P front (w ∷ back) h))

  pub left_are : (log : List Entry) (t : Option Object) (posts : List (Object × Post J)) (o : Object) (before after : Post J) (w : J × Op) → ArePosts told log t posts → post_at posts o ≡ Some before → FirstLeaves told before w after → ArePosts told log t (with_post posts o after)
  left_are log t posts o before after w a there l =
      let p = post_is log t posts o before a there in
      replaced log t posts o before after a there (record {
        state = p.state ∙ ap (λ s. Some (state_of s)) (sym l.state);
        here = subst (All (λ x. object_for told x.0 x.1 ≡ o)) (sym l.has) (without (λ x. object_for told x.0 x.1 ≡ o) l.front w l.back (subst (All (λ x. object_for told x.0 x.1 ≡ o)) l.had p.here));
        settled = λ n. subst (All (MustWait told log)) (sym l.has) (without (MustWait told log) l.front w l.back (subst (All (MustWait told log)) l.had (p.settled n)));
      })
