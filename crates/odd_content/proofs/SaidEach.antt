-- What is put into a map item by item is what the last item of each key says.
use Rattle.std.proofs.Common.{◌≡◌, ◌≢◌, ℕ, Bool, true, false, cond, fold, List, [], ◌∷◌, ◌++◌, Option, Some, None, ◌⊎◌, inl, inr, ⊎_elim, refl, sym, ap, ◌∙◌}
use Rattle.std.proofs.lemmas.Bool.{cases_Bool, false≢true}
use Rattle.std.proofs.lemmas.Cmp.{nat_list_cmp_total}
use Rattle.std.proofs.lemmas.Option.{none-some, same_Some}
use Rattle.std.specs.Cmp.{Equal-is, tied_itself}
use Rattle.std.specs.FinMap.{find, put, nat_cmp-IsAntisymmetric, slice_cmp-IsAntisymmetric}
use Rattle.std.specs.FinMap.Entries.{find-put}
use Rattle.std.specs.Ordering.{eq_by_cmp, is_eq}
use Rattle.odd_text.proofs.InList.{nothing_stands, stands_first, stands_later}
use Rattle.odd_text.proofs.SetOf.{set_same}
use Rattle.odd_text.specs.Sorted.{IsSet}
use Rattle.odd_text.specs.Text.{text_cmp}
use Rattle.odd_overlay.specs.Marks.{IsWordAfter}
use Rattle.odd_content.specs.Said.{HaveNone, IsLastOf, IsPutIn, SaysEach}

same_text_of : (k j : List ℕ) → eq_by_cmp text_cmp k j ≡ true → k ≡ j
same_text_of k j h = slice_cmp-IsAntisymmetric nat_cmp-IsAntisymmetric k j ((Equal-is (text_cmp k j)).0 h)

tied : (k : List ℕ) → eq_by_cmp text_cmp k k ≡ true
tied k = ap is_eq (tied_itself nat_list_cmp_total k)

module _ {A : Type 0} (key : A → Option (List ℕ)) where
  -- an item has the key or not
  has_key : (k : List ℕ) (x : A) → (key x ≡ Some k) ⊎ (key x ≢ Some k)
  has_key k x = elim (key x) as (λ o. key x ≡ o → (key x ≡ Some k) ⊎ (key x ≢ Some k)) [
    | None ↦ λ e. inr (λ h. none-some k (sym e ∙ h))
    | Some j ↦ λ e. ⊎_elim (λ is. inl (e ∙ ap Some (sym (same_text_of k j is)))) (λ other. inr (λ h. false≢true (sym other ∙ ap (eq_by_cmp text_cmp k) (same_Some j k (sym e ∙ h)) ∙ tied k)))
        (cases_Bool (eq_by_cmp text_cmp k j))
  ] refl

  -- some item is the last of a key, or none has it
  last_or_none : (k : List ℕ) (items : List A) → ((item : A) × IsLastOf key items k item) ⊎ HaveNone key k items
  last_or_none k [] = inr (λ item s. absurd (nothing_stands item s))
  last_or_none k (x ∷ xs) = ⊎_elim (λ h. inl (h.0, record { before = x ∷ h.1.before; after = h.1.after; parts = ap (λ ys. x ∷ ys) h.1.parts; has = h.1.has; last = h.1.last }))
      (λ none. ⊎_elim (λ is. inl (x, record { before = []; after = xs; parts = refl; has = is; last = none })) (λ other. inr (all none other)) (has_key k x)) (last_or_none k xs)
    where
      all : HaveNone key k xs → key x ≢ Some k → HaveNone key k (x ∷ xs)
      all none other item ([], after, e) has = let same : x ≡ item = cc in other (ap key same ∙ has)
      all none other item (y ∷ before, after, e) has = none item (before, after, cc) has

module _ {A V : Type 0} (key : A → Option (List ℕ)) (value : A → V) (step : List (List ℕ × V) → A → List (List ℕ × V)) (passes : (m : List (List ℕ × V)) (x : A) → key x ≡ None → step m x ≡ m)
    (puts : (m : List (List ℕ × V)) (x : A) (k : List ℕ) → key x ≡ Some k → step m x ≡ put text_cmp k (value x) m) where
  -- an item without the key changes nothing there
  kept_there : (m : List (List ℕ × V)) (x : A) (k : List ℕ) → key x ≢ Some k → find text_cmp k (step m x) ≡ find text_cmp k m
  kept_there m x k other = elim (key x) as (λ o. key x ≡ o → find text_cmp k (step m x) ≡ find text_cmp k m) [
    | None ↦ λ e. ap (find text_cmp k) (passes m x e)
    | Some j ↦ λ e.
        ap (find text_cmp k) (puts m x j e) ∙ find-put text_cmp nat_list_cmp_total k j (value x) m
        ∙ ⊎_elim (λ is. absurd (other (e ∙ ap Some (sym (same_text_of k j is))))) (λ apart. ap (λ b. cond b (Some (value x)) (find text_cmp k m)) apart) (cases_Bool (eq_by_cmp text_cmp k j))
  ] refl

  -- and so do several
  all_kept : (items : List A) (m : List (List ℕ × V)) (k : List ℕ) → HaveNone key k items → find text_cmp k (fold step m items) ≡ find text_cmp k m
  all_kept [] m k none = refl
  all_kept (x ∷ xs) m k none = all_kept xs (step m x) k (λ item s. none item (stands_later x item xs s)) ∙ kept_there m x k (none x (stands_first x xs))

  -- the last item of the key is found
  last_found : (before after : List A) (item : A) (m : List (List ℕ × V)) (k : List ℕ) → key item ≡ Some k → HaveNone key k after → find text_cmp k (fold step m (before ++ item ∷ after)) ≡ Some (value item)
  last_found [] after item m k has none =
      all_kept after (step m item) k none ∙ ap (find text_cmp k) (puts m item k has) ∙ find-put text_cmp nat_list_cmp_total k k (value item) m
      ∙ ap (λ b. cond b (Some (value item)) (find text_cmp k m)) (tied k)
  last_found (x ∷ before) after item m k has none = last_found before after item (step m x) k has none

  pub says_each : (items : List A) → SaysEach key value items (fold step [] items)
  says_each items = record {
    each = λ k item h. ap (λ xs. find text_cmp k (fold step [] xs)) h.parts ∙ last_found h.before h.after item [] k h.has h.last;
    none_else = λ k none. all_kept items [] k none;
  }

-- the words that marks put into an empty set are those that the last item of each word puts in
pub words_put : {A : Type 0} (key : A → Option (List ℕ)) (puts : A → Bool) (items : List A) (marks : List (List ℕ × Bool)) (words : List (List ℕ)) → SaysEach key puts items marks
    → IsSet text_cmp (IsWordAfter marks []) words → IsSet text_cmp (IsPutIn key puts items) words
words_put {A} key puts items marks words says set = set_same text_cmp (IsWordAfter marks []) (IsPutIn key puts items) words (λ word. (into word, back word)) set
  where
    into : (word : List ℕ) → IsWordAfter marks [] word → IsPutIn key puts items word
    into word (inl h) = absurd (nothing_stands word h.0)
    into word (inr h) = ⊎_elim (λ l. (l.0, l.1, same_Some (puts l.0) true (sym (says.each word l.0 l.1) ∙ h))) (λ none. absurd (none-some true (sym (says.none_else word none) ∙ h))) (last_or_none key word items)

    back : (word : List ℕ) → IsPutIn key puts items word → IsWordAfter marks [] word
    back word p = inr (says.each word p.0 p.1 ∙ ap Some p.2)
