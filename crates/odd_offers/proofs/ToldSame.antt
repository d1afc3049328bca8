-- Where a change makes the definitions of the offers one, it makes a definition that they tell that one too.
use Rattle.std.proofs.Common.{◌≡◌, ◌⊎◌, inl, inr, ⊎_elim, ℕ, Bool, true, false, not, ◌&&◌, ◌||◌, List, [], ◌∷◌, Option, Some, None, refl, sym, ap, subst, ◌∙◌}
use Rattle.std.proofs.lemmas.Cmp.{nat_list_cmp_total}
use Rattle.std.specs.FinMap.{find}
use Rattle.std.specs.List.{list_all, list_any}
use Rattle.std.specs.Option.{is_some, option_map}
use Rattle.std.specs.Prelude.{unwrap_or}
use Rattle.odd_text.specs.Text.{text_cmp}
use Rattle.odd_text.specs.Standing.{StandsIn}
use Rattle.odd_text.proofs.InList.{first_or_later, nothing_stands}
use Rattle.rng_types.specs.declared.val_list.ListKind.{ListKind}
use Rattle.rng_types.specs.declared.val_list.ValList.{ValList}
use Rattle.odd_text.proofs.SetOf.{one_set, set_same}
use Rattle.odd_overlay.specs.Marks.{IsWordAfter, words_laid}
use Rattle.odd_overlay.specs.Overlaid.{laid_at}
use Rattle.odd_overlay.specs.Tabled.{or_else}
use Rattle.odd_overlay.proofs.Laid.{laid_set}
use Rattle.odd_attributes.specs.Attributes.{def_changed}
use Rattle.odd_attributes.specs.Values.{val_laid}
use Rattle.odd_attributes.specs.declared.att_def.AttDef.{AttDef}
use Rattle.odd_attributes.specs.declared.att_edit.AttFields.{AttFields}
use Rattle.odd_attributes.specs.declared.val_edit.ValEdit.{ValEdit}
use Rattle.odd_attributes.specs.declared.val_edit.ValEdit.TheVariants.{Set, Change, Delete}
use Rattle.odd_offers.specs.Same.{Test, bool_test, datatype_test, def_same, def_test, first as first_true, option_test, second as second_true, text_test, vals_test}
use Rattle.odd_offers.specs.Telling.{alike_at, alike_word, are_in_order, are_words_told, has_word, in_order, is_def_told, kind_test, parts, told_by, words_of}
use Rattle.odd_offers.specs.declared.table.Offer.{Offer}
use Rattle.odd_offers.specs.declared.telling.DefPart.TheVariants as part
use Rattle.odd_offers.proofs.Lists.{any_stands, not_true, stands_any}

-- where all items pass each does
each_passes : {A : Type 0} (p : A → Bool) (xs : List A) → list_all p xs ≡ true → (x : A) → StandsIn xs x → p x ≡ true
each_passes p [] h x m = absurd (nothing_stands x m)
each_passes p (y ∷ xs) h x m =
    ⊎_elim (λ e. ap p e ∙ first_true (p y) (list_all p xs) h) (λ later. each_passes p xs (second_true (p y) (list_all p xs) h) x later) (first_or_later y x xs m)

-- two answers of which each is true where the other is are one
one_answer : (a b : Bool) → (a ≡ true → b ≡ true) → (b ≡ true → a ≡ true) → a ≡ b
one_answer true b f g = sym (f refl)
one_answer false true f g = g refl
one_answer false false f g = refl

-- a definition is alike the first, or one of the offers is not
abbrev IsTold : (AttDef → AttDef → Bool) → AttDef → List Offer → AttDef → Type 0
IsTold alike first offers def = (alike first def ≡ true) ⊎ ((offer : Offer) × StandsIn offers offer × (alike first offer.def ≡ false))

-- which is what the test tells
told_either : (alike : AttDef → AttDef → Bool) (first : AttDef) (offers : List Offer) (def : AttDef) → told_by alike first offers def ≡ true → IsTold alike first offers def
told_either alike first offers def h =
    elim (alike first def) as (λ b. alike first def ≡ b → (b || list_any (λ (offer : Offer). not (alike first offer.def)) offers) ≡ true → IsTold alike first offers def) [
      | true ↦ λ e k. inl e
      | false ↦ λ e k. let r = any_stands (λ (offer : Offer). not (alike first offer.def)) offers k in inr (r.0, r.1, not_true (alike first r.0.def) r.2)
    ] refl h

-- what is one in all the offers is that one in what they tell
told_one : {A : Type 0} (t : Test A) (of : AttDef → A) (first : AttDef) (offers : List Offer) (def : AttDef) → IsTold (λ a b. t.same (of a) (of b)) first offers def
    → ((offer : Offer) → StandsIn offers offer → of offer.def ≡ of first) → of def ≡ of first
told_one t of first offers def told all =
    ⊎_elim (λ e. sym (t.exact (of first) (of def) e))
    (λ r. let no : true ≡ false = sym (t.itself (of first)) ∙ ap (λ x. t.same (of first) x) (sym (all r.0 r.1)) ∙ r.2 in cc) told

-- and so is what is given anew or left, where it may be missing
told_else : {A : Type 0} (t : Test A) (of : AttDef → Option A) (given : Option A) (first : AttDef) (offers : List Offer) (def : AttDef)
    → IsTold (λ a b. (option_test t).same (of a) (of b)) first offers def
    → ((offer : Offer) → StandsIn offers offer → or_else given (of offer.def) ≡ or_else given (of first)) → or_else given (of def) ≡ or_else given (of first)
told_else t of None first offers def told all = told_one (option_test t) of first offers def told all
told_else t of (Some x) first offers def told all = refl

-- and where it is always there
told_unless : {A : Type 0} (t : Test A) (of : AttDef → A) (given : Option A) (first : AttDef) (offers : List Offer) (def : AttDef)
    → IsTold (λ a b. t.same (of a) (of b)) first offers def
    → ((offer : Offer) → StandsIn offers offer → unwrap_or given (of offer.def) ≡ unwrap_or given (of first)) → unwrap_or given (of def) ≡ unwrap_or given (of first)
told_unless t of None first offers def told all = told_one t of first offers def told all
told_unless t of (Some x) first offers def told all = refl

-- the words of a list that may be missing
abbrev words_in : Option ValList → List (List ℕ)
words_in vals = unwrap_or (option_map (λ l. l.values) vals) []

-- the type of a list that may be missing
abbrev kind_in : Option ValList → Option ListKind
kind_in vals = option_map (λ l. l.kind) vals

-- a change makes a list just where there is one
some_laid : (kind : Option ListKind) (marks : List (List ℕ × Bool)) (x : Option ValList) → is_some (val_laid (Change kind marks) x) ≡ is_some x
some_laid kind marks None = refl
some_laid kind marks (Some l) = refl

-- and leaves its type where it gives none
kind_laid : (marks : List (List ℕ × Bool)) (x : Option ValList) → kind_in (val_laid (Change None marks) x) ≡ kind_in x
kind_laid marks None = refl
kind_laid marks (Some l) = refl

-- a word that has no mark and stands in one of two lists that are made one stands in the other
word_left : (marks : List (List ℕ × Bool)) (xs ys : List (List ℕ)) (word : List ℕ) → find text_cmp word marks ≡ None → words_laid marks xs ≡ words_laid marks ys → StandsIn xs word → StandsIn ys word
word_left marks xs ys word none same s =
    let there = (laid_set marks xs).each word (inl (s, λ e. let no : None ≡ Some false = sym none ∙ e in cc)) in
    ⊎_elim (λ is. is.0) (λ e. let no : None ≡ Some true = sym none ∙ e in cc) ((laid_set marks ys).none_else word (subst (λ ws. StandsIn ws word) same there))

-- also where the lists may be missing
word_left_in : (kind : Option ListKind) (marks : List (List ℕ × Bool)) (x y : Option ValList) (word : List ℕ) → find text_cmp word marks ≡ None
    → val_laid (Change kind marks) x ≡ val_laid (Change kind marks) y → StandsIn (words_in x) word → StandsIn (words_in y) word
word_left_in kind marks None None word none same s = s
word_left_in kind marks None (Some m) word none same s = cc
word_left_in kind marks (Some l) None word none same s = cc
word_left_in kind marks (Some l) (Some m) word none same s = word_left marks l.values m.values word none (ap words_in same) s

-- a definition has the words that stand in its list
word_had : (word : List ℕ) (def : AttDef) → StandsIn (words_of def) word → has_word word def ≡ true
word_had word def s = stands_any (text_test.same word) (words_of def) word s (text_test.itself word)

-- and no others
had_word : (word : List ℕ) (def : AttDef) → has_word word def ≡ true → StandsIn (words_of def) word
had_word word def h =
    let r = any_stands (text_test.same word) (words_of def) h in
    subst (StandsIn (words_of def)) (sym (text_test.exact word r.0 r.2)) r.1

-- definitions whose lists are made one both have a word that has no mark, or neither has it
had_alike : (kind : Option ListKind) (marks : List (List ℕ × Bool)) (a b : AttDef) (word : List ℕ) → find text_cmp word marks ≡ None
    → val_laid (Change kind marks) a.vals ≡ val_laid (Change kind marks) b.vals → has_word word a ≡ has_word word b
had_alike kind marks a b word none same =
    one_answer (has_word word a) (has_word word b)
    (λ h. word_had word b (word_left_in kind marks a.vals b.vals word none same (had_word word a h)))
    (λ h. word_had word a (word_left_in kind marks b.vals a.vals word none (sym same) (had_word word b h)))

-- each word without a mark that stands in the one list stands in the other
abbrev AreLeft : List (List ℕ × Bool) → List (List ℕ) → List (List ℕ) → Type 0
AreLeft marks xs ys = (word : List ℕ) → find text_cmp word marks ≡ None → StandsIn xs word → StandsIn ys word

-- so a word that is in what is made of the one list is in what is made of the other
word_after : (marks : List (List ℕ × Bool)) (xs ys : List (List ℕ)) → AreLeft marks xs ys → (word : List ℕ) → IsWordAfter marks xs word → IsWordAfter marks ys word
word_after marks xs ys left word (inr e) = inr e
word_after marks xs ys left word (inl is) =
    elim (find text_cmp word marks) as (λ o. find text_cmp word marks ≡ o → IsWordAfter marks ys word) [
      | None ↦ λ e. inl (left word e is.0, is.1)
      | Some mark ↦ λ e. marked mark e
    ] refl
  where
    marked : (mark : Bool) → find text_cmp word marks ≡ Some mark → IsWordAfter marks ys word
    marked true e = inr e
    marked false e = absurd (is.1 e)

-- lists that have the same words without marks are made one
words_one : (marks : List (List ℕ × Bool)) (xs ys : List (List ℕ)) → AreLeft marks xs ys → AreLeft marks ys xs → words_laid marks xs ≡ words_laid marks ys
words_one marks xs ys there back =
    one_set text_cmp nat_list_cmp_total (IsWordAfter marks xs) (words_laid marks xs) (words_laid marks ys) (laid_set marks xs)
    (set_same text_cmp (IsWordAfter marks ys) (IsWordAfter marks xs) (words_laid marks ys) (λ word. (word_after marks ys xs back word, word_after marks xs ys there word)) (laid_set marks ys))

-- types that are one unless one is given are one once it is given
kinds_one : (kind : Option ListKind) (j k : ListKind) → (kind ≡ None → Some j ≡ Some k) → unwrap_or kind j ≡ unwrap_or kind k
kinds_one None j k same = ap (λ o. unwrap_or o j) (same refl)
kinds_one (Some given) j k same = refl

-- lists that are both there or both missing, of one type unless that is given, and with the same words without marks are made one
lists_one : (kind : Option ListKind) (marks : List (List ℕ × Bool)) (x y : Option ValList) → is_some x ≡ is_some y → (kind ≡ None → kind_in x ≡ kind_in y)
    → AreLeft marks (words_in x) (words_in y) → AreLeft marks (words_in y) (words_in x) → val_laid (Change kind marks) x ≡ val_laid (Change kind marks) y
lists_one kind marks None None some same there back = refl
lists_one kind marks None (Some m) some same there back = cc
lists_one kind marks (Some l) None some same there back = cc
lists_one kind marks (Some l) (Some m) some same there back =
    λ i. Some (record { kind = kinds_one kind l.kind m.kind same i; values = words_one marks l.values m.values there back i })

module _ (first : AttDef) (offers : List Offer) (def : AttDef) where
  -- each word of the list is told
  abbrev AreTold : AttDef → Type 0
  AreTold of = (word : List ℕ) → StandsIn (words_of of) word → IsTold (alike_word word) first offers def

  -- a change makes the lists of all the offers the first's
  abbrev AllLaid : ValEdit → Type 0
  AllLaid edit = (offer : Offer) → StandsIn offers offer → val_laid edit offer.def.vals ≡ val_laid edit first.vals

  -- a word without a mark that is told stands in both lists or in neither
  word_told : (kind : Option ListKind) (marks : List (List ℕ × Bool)) → AllLaid (Change kind marks) → (word : List ℕ) → find text_cmp word marks ≡ None
      → IsTold (alike_word word) first offers def → has_word word def ≡ has_word word first
  word_told kind marks all word none told =
      told_one bool_test (λ d. has_word word d) first offers def told (λ offer m. had_alike kind marks offer.def first word none (all offer m))

  -- there is a list just where the first has one
  some_told : (kind : Option ListKind) (marks : List (List ℕ × Bool)) → AllLaid (Change kind marks) → IsTold (alike_at part.HasValues) first offers def → is_some def.vals ≡ is_some first.vals
  some_told kind marks all told =
      told_one bool_test (λ d. is_some d.vals) first offers def told
      (λ offer m. sym (some_laid kind marks offer.def.vals) ∙ ap is_some (all offer m) ∙ some_laid kind marks first.vals)

  -- its type is the first's where none is given
  kind_told : (kind : Option ListKind) (marks : List (List ℕ × Bool)) → AllLaid (Change kind marks) → IsTold (alike_at part.ListKind) first offers def → kind ≡ None
      → kind_in def.vals ≡ kind_in first.vals
  kind_told kind marks all told none =
      let left = subst (λ k. AllLaid (Change k marks)) none all in
      told_one (option_test kind_test) (λ d. kind_in d.vals) first offers def told
      (λ offer m. sym (kind_laid marks offer.def.vals) ∙ ap kind_in (left offer m) ∙ kind_laid marks first.vals)

  -- so the change makes its list the first's
  list_told : (kind : Option ListKind) (marks : List (List ℕ × Bool)) → AllLaid (Change kind marks) → IsTold (alike_at part.HasValues) first offers def
      → IsTold (alike_at part.ListKind) first offers def → AreTold first → AreTold def → val_laid (Change kind marks) def.vals ≡ val_laid (Change kind marks) first.vals
  list_told kind marks all some same firsts own =
      lists_one kind marks def.vals first.vals (some_told kind marks all some) (kind_told kind marks all same)
      (λ word none s. had_word word first (sym (word_told kind marks all word none (own word s)) ∙ word_had word def s))
      (λ word none s. had_word word def (word_told kind marks all word none (firsts word s) ∙ word_had word first s))

  -- and so does each edit, and none
  vals_told : (given : Option ValEdit) → ((offer : Offer) → StandsIn offers offer → laid_at val_laid given offer.def.vals ≡ laid_at val_laid given first.vals)
      → IsTold (alike_at part.Values) first offers def → IsTold (alike_at part.HasValues) first offers def → IsTold (alike_at part.ListKind) first offers def
      → AreTold first → AreTold def → laid_at val_laid given def.vals ≡ laid_at val_laid given first.vals
  vals_told None all vals some same firsts own = told_one (option_test vals_test) (λ d. d.vals) first offers def vals all
  vals_told (Some (Set list)) all vals some same firsts own = refl
  vals_told (Some Delete) all vals some same firsts own = refl
  vals_told (Some (Change kind marks)) all vals some same firsts own = list_told kind marks all some same firsts own

  -- whether each part is told
  abbrev are_parts_told : Bool
  are_parts_told = list_all (λ part. told_by (alike_at part) first offers def) parts

  -- and whether each of some words is
  abbrev is_each_told : List (List ℕ) → Bool
  is_each_told words = list_all (λ word. told_by (alike_word word) first offers def) words

  -- which tells each of them
  words_told : (of : AttDef) → is_each_told (words_of of) ≡ true → AreTold of
  words_told of h word s = told_either (alike_word word) first offers def (each_passes (λ word. told_by (alike_word word) first offers def) (words_of of) h word s)

  -- where the parts and the words are told a change makes the definition the first
  parts_same : are_parts_told ≡ true → AreTold first → AreTold def → (fields : AttFields)
      → ((offer : Offer) → StandsIn offers offer → def_changed fields offer.def ≡ def_changed fields first) → def_changed fields def ≡ def_changed fields first
  parts_same h firsts own fields all =
      let h1 = second_true _ _ h in
      let h2 = second_true _ _ h1 in
      let h3 = second_true _ _ h2 in
      let h4 = second_true _ _ h3 in
      let h5 = second_true _ _ h4 in
      let h6 = second_true _ _ h5 in
      let alt = told_else text_test (λ d. d.alt) fields.alt first offers def (told_either (alike_at part.Alt) first offers def (first_true _ _ h)) (λ offer m. ap (λ (d : AttDef). d.alt) (all offer m)) in
      let ns = told_else text_test (λ d. d.ns) fields.ns first offers def (told_either (alike_at part.Ns) first offers def (first_true _ _ h1)) (λ offer m. ap (λ (d : AttDef). d.ns) (all offer m)) in
      let needed =
      told_unless bool_test (λ d. d.needed) fields.needed first offers def (told_either (alike_at part.Needed) first offers def (first_true _ _ h2))
      (λ offer m. ap (λ (d : AttDef). d.needed) (all offer m)) in
      let datatype =
      told_else datatype_test (λ d. d.datatype) fields.datatype first offers def (told_either (alike_at part.Datatype) first offers def (first_true _ _ h3))
      (λ offer m. ap (λ (d : AttDef). d.datatype) (all offer m)) in
      let vals =
      vals_told fields.vals (λ offer m. ap (λ (d : AttDef). d.vals) (all offer m)) (told_either (alike_at part.Values) first offers def (first_true _ _ h4))
      (told_either (alike_at part.HasValues) first offers def (first_true _ _ h5)) (told_either (alike_at part.ListKind) first offers def (first_true _ _ h6)) firsts own in
      λ i. record { alt = alt i; ns = ns i; needed = needed i; datatype = datatype i; vals = vals i }

-- what the offers tell a change makes what it makes of the first, where it makes that of each of the offers
pub told_same : (first : AttDef) (offers : List Offer) (def : AttDef) → is_def_told first offers def ≡ true → (fields : AttFields)
    → ((offer : Offer) → StandsIn offers offer → def_changed fields offer.def ≡ def_changed fields first) → def_changed fields def ≡ def_changed fields first
told_same first offers def h fields all =
    elim (def_same first def) as (λ b. def_same first def ≡ b → (b || (are_parts_told first offers def && are_words_told first offers def)) ≡ true
    → def_changed fields def ≡ def_changed fields first) [
      | true ↦ λ e k. ap (def_changed fields) (sym (def_test.exact first def e))
      | false ↦ λ e k.
          let each = is_each_told first offers def in
          let ordered = second_true (are_parts_told first offers def) (are_words_told first offers def) k in
          let others = second_true (in_order (words_of def)) (are_in_order offers && (each (words_of first) && each (words_of def))) ordered in
          let words = second_true (are_in_order offers) (each (words_of first) && each (words_of def)) others in
          parts_same first offers def (first_true (are_parts_told first offers def) (are_words_told first offers def) k)
          (words_told first offers def first (first_true (each (words_of first)) (each (words_of def)) words))
          (words_told first offers def def (second_true (each (words_of first)) (each (words_of def)) words)) fields all
    ] refl h
