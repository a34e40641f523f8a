-- Arguments and what stands behind a name are read.
use Rattle.std.proofs.Common.{◌≡◌, ℕ, suc, ◌<◌, ◌≤◌, ◌⊎◌, inl, inr, Bool, true, false, true≢false, List, [], ◌++◌, Some, codes, refl, sym, ap, subst, ◌∙◌, append_assoc, append-nil, lit≤, lit<, arith}
use Rattle.jt_syntax.specs.Tree.{Tree, Trees, Step}
use Rattle.jt_syntax.specs.Tree as tree
use Rattle.jt_syntax.specs.declared.script.Identifier.{Identifier}
use Rattle.jt_syntax.specs.declared.token.Sign.{Sign}
use Rattle.jt_syntax.specs.declared.token.Sign.TheVariants as sign
use Rattle.jt_syntax.specs.declared.token.Token.{Token}
use Rattle.jt_syntax.specs.declared.token.TokenKind.{TokenKind}
use Rattle.jt_syntax.specs.declared.token.TokenKind.TheVariants as kind
use Rattle.jt_grammar.specs.declared.Level.{Level}
use Rattle.jt_grammar.specs.declared.Level.TheVariants as levels
use Rattle.jt_grammar.specs.Grammar.{token, Rule, ◌▸◌, ◌∣◌, Mark, Word, Letters, Truth, Quoted, Held, Spells, Listed, Commas, level}
use Rattle.jt_grammar.specs.Nesting.{Within, AllWithin}
use Rattle.jt_grammar.specs.Reader.{Parser, ◌>>=◌, ◌>>◌, pure, kind_of, same_sign, is, skip, notified_with_all, notified_alone, arguments, notify_all, with_all, alone, call_ended, called, element, named, item_by, item, comma_list}
use Rattle.jt_grammar.proofs.CompleteParts.{always, Any, Takes, Leads, then, last, mark, seen, opened, mark_last, seen_last, on_yes, on_no, by, by_same, anything, somewhere, passed, respell, either, each, known, lead_then, lead_mark}
use Rattle.jt_grammar.proofs.CompleteWords.{word_takes, letters_pass, truth_takes}
use Rattle.jt_grammar.proofs.CompleteLevels.{AllRead}
use Rattle.jt_grammar.proofs.CompleteLists.{Items, MoreItems, items_complete}
use Rattle.jt_grammar.proofs.Front.{no_close, binds, Stops, starts, no_sign, lead_any, lead_quoted, class_least}

items_view : (l : ℕ) (xs : Trees) (w : List Token) → Listed l xs w → Items (λ e. Held l e (Spells e)) (Commas l) tree.no_trees tree.tree xs w
items_view l tree.no_trees w g = inl (refl, g)
items_view l (tree.tree e es) w g = inr (e, es, refl, g)

more_view : (l : ℕ) (xs : Trees) (w : List Token) → Commas l xs w → MoreItems (λ e. Held l e (Spells e)) (Commas l) tree.no_trees tree.tree xs w
more_view l tree.no_trees w g = inl (refl, g)
more_view l (tree.tree e es) w g = inr (e, es, refl, g)

-- what closes a list of items, and doesn't go on with one
pub record EndsItems (xs : Trees) (s : Sign) : Type 0 where
  pub stops : binds (kind.Sign s) < 1
  pub no_comma : is sign.Comma (kind.Sign s) ≡ false
  pub empty : xs ≡ tree.no_trees → is sign.Close (kind.Sign s) ≡ true

some_trees : Trees → Bool
some_trees tree.no_trees = false
some_trees (tree.tree e es) = true

not_empty : (e : Tree) (es : Trees) → tree.tree e es ≡ tree.no_trees → ⊥
unfolding some_trees
not_empty e es same = true≢false (ap some_trees same)

pub comma-close : is sign.Comma (kind.Sign sign.Close) ≡ false
unfolding same_sign
comma-close = refl

comma-assign : is sign.Comma (kind.Sign sign.Assign) ≡ false
unfolding same_sign
comma-assign = refl

comma-semicolon : is sign.Comma (kind.Sign sign.Semicolon) ≡ false
unfolding same_sign
comma-semicolon = refl

close-assign : is sign.Close (kind.Sign sign.Assign) ≡ false
unfolding same_sign
close-assign = refl

close-semicolon : is sign.Close (kind.Sign sign.Semicolon) ≡ false
unfolding same_sign
close-semicolon = refl

assign-semicolon : is sign.Assign (kind.Sign sign.Semicolon) ≡ false
unfolding same_sign
assign-semicolon = refl

pub close_ends : (xs : Trees) → EndsItems xs sign.Close
close_ends xs = record { stops = lit< tt; no_comma = comma-close; empty = λ e. known sign.Close }

-- items of a level, up to that sign
pub listed_complete : (n l k : ℕ) (read_item : Parser Tree) → ((e : Tree) → Within k e → Takes n (Held l e (Spells e)) (Stops 1) read_item e) → ((e : Tree) → Leads (Held l e (Spells e)) Any (λ x. is sign.Close x ≡ false))
    → (xs : Trees) → AllWithin k xs → (s : Sign) → EndsItems xs s → Takes n (Listed l xs) (λ x. x ≡ kind.Sign s) (comma_list n read_item tree.no_trees tree.tree) xs
listed_complete n l k read_item complete first xs ws s e = record {
  takes = λ w rest g h same.
      items_complete (λ x. Held l x (Spells x)) (Commas l) (Within k) (AllWithin k) tree.no_trees tree.tree (more_view l) (λ x ys a. a) n (Stops 1) (lit< tt) read_item complete first xs ws w rest (items_view l xs w g) h
      (subst (Stops 1) (sym same) e.stops) (subst (λ z. is sign.Comma z ≡ false) (sym same) e.no_comma) (λ z. subst (λ y. is sign.Close y ≡ true) (sym same) (e.empty z));
}

open-square : is sign.Open (kind.Sign sign.OpenSquare) ≡ false
unfolding same_sign
open-square = refl

above_zero : (e : Tree) → 1 ≤ level e → Leads (Held 0 e (Spells e)) Any (λ x. is sign.Close x ≡ false)
above_zero e h = record { leads = λ w rest g s. (lead_any {l = 1} e {S = Any} (lit≤ tt) no_close).leads w rest (h, g.1) s }

module _ (n d : ℕ) (expr_in : Level → Parser Tree) (step_in : Parser Step) (below : (k : ℕ) → d ≡ suc k → AllRead n k expr_in step_in) where
  arguments_complete : (k : ℕ) → d ≡ suc k → (xs : Trees) → AllWithin k xs → (s : Sign) → EndsItems xs s → Takes n (Listed 1 xs) (λ x. x ≡ kind.Sign s) (arguments n d expr_in step_in) xs
  arguments_complete k is_d xs ws s e = listed_complete n 1 k (expr_in levels.Whole) ((below k is_d).whole_read) (λ x. lead_any x (lit≤ tt) no_close) xs ws s e

  call_complete : (i : Identifier) (xs : Trees) → Within d (tree.call i xs) → Takes n (Mark sign.Open ▸ Listed 1 xs ▸ Mark sign.Close) Any (called n d expr_in step_in i) (tree.call i xs)
  call_complete i xs o = opened (λ k. AllWithin k xs) d _ o (λ k is_d ws at.
      then _ (arguments_complete k is_d xs ws sign.Close (close_ends xs)) (lead_mark refl)
      (on_yes sign.Close _ _ (lead_mark (known sign.Close)) (seen_last _ (λ at rest. refl))))

  -- ---- calls of `notify` with `all`

  notify_end : (e : Tree) (b : Bool) → Takes n (Mark sign.Assign ▸ Truth b ▸ Mark sign.Close) Any (notify_all n d expr_in step_in e) (tree.notify e b)
  notify_end e b = mark _ (λ at. then _ (truth_takes b) anything (mark_last _ (λ at rest. refl)))

  -- the name `notify`
  abbrev notify_name : ℕ → Identifier
  notify_name at = record { name = codes "notify"; at = at }

  abbrev all_name : ℕ → Identifier
  all_name at = record { name = codes "all"; at = at }

  is_notify_all : (p q : ℕ) (e : Tree) → notified_with_all (notify_name p) (tree.tree e (tree.tree (tree.name (all_name q)) tree.no_trees)) ≡ Some e
  is_notify_all p q e = refl

  is_notify : (p : ℕ) (e : Tree) → notified_alone (notify_name p) (tree.tree e tree.no_trees) ≡ Some e
  is_notify p e = refl

  comma_form : (p q k : ℕ) → d ≡ suc k → (e : Tree) (b : Bool) → Within k e
      → Takes n (Listed 1 (tree.tree e (tree.tree (tree.name (all_name q)) tree.no_trees)) ▸ Mark sign.Assign ▸ Truth b ▸ Mark sign.Close) Any
      (arguments n d expr_in step_in >>= call_ended n d expr_in step_in (notify_name p)) (tree.notify e b)
  comma_form p q k is_d e b o =
      let xs = tree.tree e (tree.tree (tree.name (all_name q)) tree.no_trees) in
      then _ (arguments_complete k is_d xs (o, (tt, tt)) sign.Assign (record { stops = lit< tt; no_comma = comma-assign; empty = λ z. absurd (not_empty _ _ z) })) (lead_then (lead_mark refl))
      (on_no sign.Close _ _ (lead_then (lead_mark close-assign)) (on_yes sign.Assign _ _ (lead_then (lead_mark (known sign.Assign)))
      (subst (λ o. Takes n (Mark sign.Assign ▸ Truth b ▸ Mark sign.Close) Any (with_all n d expr_in step_in o) (tree.notify e b)) (sym (is_notify_all p q e)) (notify_end e b))))

  semicolon_form : (p k : ℕ) → d ≡ suc k → (e : Tree) (b : Bool) → Within k e
      → Takes n (Listed 1 (tree.tree e tree.no_trees) ▸ Mark sign.Semicolon ▸ Letters (codes "all") ▸ Mark sign.Assign ▸ Truth b ▸ Mark sign.Close) Any
      (arguments n d expr_in step_in >>= call_ended n d expr_in step_in (notify_name p)) (tree.notify e b)
  semicolon_form p k is_d e b o =
      let xs = tree.tree e tree.no_trees in
      then _ (arguments_complete k is_d xs (o, tt) sign.Semicolon (record { stops = lit< tt; no_comma = comma-semicolon; empty = λ z. absurd (not_empty _ _ z) })) (lead_then (lead_mark refl))
      (on_no sign.Close _ _ (lead_then (lead_mark close-semicolon)) (on_no sign.Assign _ _ (lead_then (lead_mark assign-semicolon)) (on_yes sign.Semicolon _ _ (lead_then (lead_mark (known sign.Semicolon)))
      (subst (λ o. Takes n (Mark sign.Semicolon ▸ Letters (codes "all") ▸ Mark sign.Assign ▸ Truth b ▸ Mark sign.Close) Any (alone n d expr_in step_in o) (tree.notify e b)) (sym (is_notify p e))
      (seen _ (λ at. passed _ (letters_pass (codes "all")) anything (λ t. notify_end e b)))))))

  -- what stands behind the opening parenthesis, by what is notified with
  abbrev CommaForm : Tree → Bool → ℕ → Rule
  CommaForm e b q = Listed 1 (tree.tree e (tree.tree (tree.name (all_name q)) tree.no_trees)) ▸ Mark sign.Assign ▸ Truth b ▸ Mark sign.Close

  abbrev SemicolonForm : Tree → Bool → Rule
  SemicolonForm e b = Listed 1 (tree.tree e tree.no_trees) ▸ Mark sign.Semicolon ▸ Letters (codes "all") ▸ Mark sign.Assign ▸ Truth b ▸ Mark sign.Close

  abbrev NotifyForm : Tree → Bool → Rule
  NotifyForm e b = Held 1 e (Spells e) ▸ (Mark sign.Comma ∣ Mark sign.Semicolon) ▸ Letters (codes "all") ▸ Mark sign.Assign ▸ Truth b ▸ Mark sign.Close

  form_by_sign : (e : Tree) (b : Bool) (w u v x y : List Token) → w ≡ u ++ v → Held 1 e (Spells e) u → v ≡ x ++ y → Mark sign.Comma x ⊎ Mark sign.Semicolon x → (Letters (codes "all") ▸ Mark sign.Assign ▸ Truth b ▸ Mark sign.Close) y
      → ((q : ℕ) × CommaForm e b q w) ⊎ SemicolonForm e b w
  form_by_sign e b w u v x y is_w a is_v (inl m) g =
      let c = g.0 in
      let z = g.1 in
      let shape : w ≡ (u ++ (x ++ c)) ++ z =
      is_w ∙ (ap (λ z. u ++ z) (is_v ∙ (ap (λ z. x ++ z) g.2 ∙ sym (append_assoc x c z))) ∙ sym (append_assoc u (x ++ c) z)) in
      inl (g.3.0, (u ++ (x ++ c), z, shape, (u, x ++ c, refl, a, (x, c, refl, m, (c, [], sym (append-nil c), (lit≤ tt, g.3.1), refl))), g.4))
  form_by_sign e b w u v x y is_w a is_v (inr m) g = inr (u, v, is_w, (u, [], sym (append-nil u), a, refl), (x, y, is_v, m, g))

  notify_form : (e : Tree) (b : Bool) (w : List Token) → NotifyForm e b w → ((q : ℕ) × CommaForm e b q w) ⊎ SemicolonForm e b w
  notify_form e b w g = form_by_sign e b w g.0 g.1 g.4.0 g.4.1 g.2 g.3 g.4.2 g.4.3 g.4.4

  notify_complete : (p : ℕ) (e : Tree) (b : Bool) → Within d (tree.notify e b) → Takes n (Mark sign.Open ▸ NotifyForm e b) Any (called n d expr_in step_in (notify_name p)) (tree.notify e b)
  notify_complete p e b o = opened (λ k. Within k e) d _ o (λ k is_d o' at.
      respell ((λ w. (q : ℕ) × CommaForm e b q w) ∣ SemicolonForm e b) (notify_form e b)
      (either (λ w. (q : ℕ) × CommaForm e b q w) (SemicolonForm e b) (each (CommaForm e b) (λ q. comma_form p q k is_d e b o')) (semicolon_form p k is_d e b o')))

  -- ---- names

  element_complete : (i : Identifier) → Within d (tree.read i) → Takes n (Mark sign.OpenSquare ▸ Mark sign.CloseSquare) Any (element n d expr_in step_in i) (tree.read i)
  element_complete i o = opened (λ k. Unit {0}) d _ o (λ k is_d o' at. mark_last _ (λ at rest. refl))

  -- a name alone
  pub name_complete : (i : Identifier) → Takes n (Word i) (Stops 11) (named n d expr_in step_in) (tree.name i)
  name_complete i = last _ (word_takes i) (λ k s. tt) (λ rest s. rw (no_sign sign.Open 11 (kind_of rest) (lit≤ tt) s, no_sign sign.OpenSquare 11 (kind_of rest) (lit≤ tt) s) refl)

  pub named_call : (i : Identifier) (xs : Trees) → Within d (tree.call i xs) → Takes n (Spells (tree.call i xs)) Any (named n d expr_in step_in) (tree.call i xs)
  named_call i xs o = then _ (word_takes i) anything (on_yes sign.Open _ _ (lead_then (lead_mark (known sign.Open))) (call_complete i xs o))

  pub named_notify : (e : Tree) (b : Bool) → Within d (tree.notify e b) → Takes n (Spells (tree.notify e b)) Any (named n d expr_in step_in) (tree.notify e b)
  named_notify e b o = respell (λ w. (at : ℕ) × (Word (notify_name at) ▸ Mark sign.Open ▸ NotifyForm e b) w) (λ w g. (g.3.0, (g.0, g.1, g.2, g.3.1, g.4)))
      (each (λ at. Word (notify_name at) ▸ Mark sign.Open ▸ NotifyForm e b) (λ at. then _ (word_takes (notify_name at)) anything (on_yes sign.Open _ _ (lead_then (lead_mark (known sign.Open))) (notify_complete at e b o))))

  pub named_element : (i : Identifier) → Within d (tree.read i) → Takes n (Spells (tree.read i)) Any (named n d expr_in step_in) (tree.read i)
  named_element i o = then _ (word_takes i) anything (on_no sign.Open _ _ (lead_then (lead_mark open-square)) (on_yes sign.OpenSquare _ _ (lead_then (lead_mark (known sign.OpenSquare))) (element_complete i o)))

  -- ---- items of `println`

  whole_item : (e : Tree) (k : ℕ) → d ≡ suc k → Within k e → 1 ≤ level e → Takes n (Held 0 e (Spells e)) (Stops 1) (item n d expr_in step_in) e
  unfolding item
  whole_item e k is_d o h = respell (Held 1 e (Spells e)) (λ w g. (h, g.1)) (by_same (item_by n d expr_in step_in) (expr_in levels.Whole) (lead_any e (lit≤ tt) starts-item) ((below k is_d).whole_read e o))
    where
      starts-item : (k : TokenKind) → starts k ≡ true → item_by n d expr_in step_in k ≡ expr_in levels.Whole
      starts-item (kind.Text t) s = absurd (true≢false (sym s))
      starts-item (kind.Sign _) s = refl
      starts-item (kind.Number _) s = refl
      starts-item (kind.Name _) s = refl

  item_complete : (k : ℕ) → d ≡ suc k → (e : Tree) → Within k e → Takes n (Held 0 e (Spells e)) (Stops 1) (item n d expr_in step_in) e
  unfolding item
  item_complete k is_d (tree.text t) o = respell (Quoted t) (λ w g. g.1) (by (item_by n d expr_in step_in) (kind.Text t) (lead_quoted refl) (always (somewhere (token (kind.Text t)) (skip >> pure (tree.text t)) (tree.text t) (λ at ts. refl))))
  item_complete k is_d (tree.chain c e es) o = whole_item (tree.chain c e es) k is_d o (omega (arith, class_least c))
  item_complete k is_d e o = whole_item e k is_d o (omega arith)

  item_first : (e : Tree) → Leads (Held 0 e (Spells e)) Any (λ x. is sign.Close x ≡ false)
  item_first (tree.text t) = let x : Leads (Quoted t) Any (λ k. is sign.Close k ≡ false) = lead_quoted refl in record { leads = λ w rest g s. x.leads w rest g.1 s }
  item_first (tree.chain c e es) = above_zero (tree.chain c e es) (omega (arith, class_least c))
  item_first e = above_zero e (omega arith)

  pub items_read : (k : ℕ) → d ≡ suc k → (xs : Trees) → AllWithin k xs → Takes n (Listed 0 xs) (λ x. x ≡ kind.Sign sign.Close) (comma_list n (item n d expr_in step_in) tree.no_trees tree.tree) xs
  items_read k is_d xs ws = listed_complete n 0 k (item n d expr_in step_in) (item_complete k is_d) item_first xs ws sign.Close (close_ends xs)
