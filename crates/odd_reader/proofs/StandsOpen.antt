-- The open elements after tokens: their tags, how many they are, and when one more is opened.
use Rattle.std.proofs.Common.{◌≡◌, false, List, [], ◌∷◌, ◌++◌, reverse, refl, sym, ap, ◌∙◌, append_assoc, append-nil, ◌⊎◌, inl, inr, ⊎_elim, ◌<◌, true, length, ap₂, subst, ◌≤◌, Bool, ◌||◌, if◌then◌else◌, nat_le, map, Option, Some, None, Ok, Err}
use Rattle.std.proofs.lemmas.Bool.{or_parts, leb-true, leb-false}
use Rattle.std.proofs.lemmas.List.{reverse-reverse, reverse-append}
use Rattle.odd_tokens.specs.Tokens.{Tag, Token, start_tag, end_tag}
use Rattle.odd_tokens.specs.declared.token.WrittenAttr.{WrittenAttr}
use Rattle.odd_tokens.specs.declared.token.WrittenTag.{WrittenTag}
use Rattle.odd_tree.specs.Fitting.{is_start_or_end, IsBalanced, nothing, piece, element, AreOpen, none, more, is_start_or_empty}
use Rattle.odd_tree.specs.Spelled.{NoneTooDeep, deepest}
use Rattle.odd_tree.specs.declared.tree.Tree.{Tree}
use Rattle.odd_reader.specs.Building.{Kept, Built, misplaced, text_ended, element_opened, element_closed}
use Rattle.odd_reader.specs.Resolving.{resolved, some_twice, is_written_same}
use Rattle.odd_reader.specs.declared.element.OpenElement.{OpenElement}
use Rattle.odd_reader.specs.declared.misfit.Misfit.{Misfit}
use Rattle.odd_reader.specs.declared.misfit.Misfit.TheVariants as misfit

abbrev without_last : List Tag → List Tag
without_last [] = []
without_last (t ∷ ts) = ts

abbrev after_one : List Tag → Token → List Tag
after_one tags (start_tag t) = t ∷ tags
after_one tags (end_tag n s) = without_last tags
after_one tags t = tags

-- the open elements after the tokens, the innermost first
abbrev tags_after : List Tag → List Token → List Tag
tags_after tags [] = tags
tags_after tags (t ∷ ts) = tags_after (after_one tags t) ts

same_after : (tags : List Tag) (t : Token) → is_start_or_end t ≡ false → after_one tags t ≡ tags
same_after tags (start_tag t) h = cc
same_after tags (end_tag n s) h = cc
same_after tags t h = refl

balanced_after : (tags : List Tag) (ts next : List Token) → IsBalanced ts → tags_after tags (ts ++ next) ≡ tags_after tags next
balanced_after tags ts next nothing = refl
balanced_after tags ts next (piece {t = t} {ts = us} h b) = ap (λ g. tags_after g (us ++ next)) (same_after tags t h) ∙ balanced_after tags us next b
balanced_after tags ts next (element {tag = g} {ts = us} name space inside after b c e) =
    ap (λ l. tags_after (g ∷ tags) (l ++ next)) e
    ∙ ap (tags_after (g ∷ tags)) (append_assoc inside (end_tag name space ∷ after) next)
    ∙ balanced_after (g ∷ tags) inside (end_tag name space ∷ (after ++ next)) b
    ∙ balanced_after tags after next c

open_after : (tags : List Tag) (open_tags : List Tag) (ts : List Token) → AreOpen open_tags ts → tags_after tags ts ≡ reverse open_tags ++ tags
open_after tags open_tags ts (none b) = ap (tags_after tags) (sym (append-nil ts)) ∙ balanced_after tags ts [] b
open_after tags open_tags ts (more {tag = g} {tags = gs} before inside b o e) =
    ap (tags_after tags) e ∙ balanced_after tags before (start_tag g ∷ inside) b ∙ open_after (g ∷ tags) gs inside o
    ∙ sym (append_assoc (reverse gs) (g ∷ []) tags) ∙ ap (λ l. l ++ tags) (sym (reverse-append (g ∷ []) gs))

pub one_open : (a b : List Tag) (ts : List Token) → AreOpen a ts → AreOpen b ts → a ≡ b
one_open a b ts o p =
    let e : reverse a ≡ reverse b = sym (append-nil (reverse a)) ∙ sym (open_after [] a ts o) ∙ open_after [] b ts p ∙ append-nil (reverse b) in
    sym (reverse-reverse a) ∙ ap reverse e ∙ reverse-reverse b

pub one_depth_open : {ts : List Token} (some others : List Tag) → AreOpen some ts → AreOpen others ts → length some ≡ length others
one_depth_open {ts} some others a b = ap length (one_open some others ts a b)

-- the last item of a list, or one before it
abbrev LastOrBefore : {A : Type 0} → List A → List A → A → A → Type 0
LastOrBefore {A} xs before x y = ((xs ≡ before) × (x ≡ y)) ⊎ ((rest : List A) × (xs ≡ before ++ y ∷ rest))

last_or_before : {A : Type 0} (xs before after : List A) (x y : A) → xs ++ x ∷ [] ≡ before ++ y ∷ after → LastOrBefore xs before x y
last_or_before [] [] after x y e = inl (refl, cc)
last_or_before [] (b ∷ []) after x y e = cc
last_or_before [] (b ∷ (c ∷ cs)) after x y e = cc
last_or_before (z ∷ zs) [] after x y e = inr (zs, cc)
last_or_before (z ∷ zs) (b ∷ bs) after x y e =
    let same : z ≡ b = cc in
    let later : zs ++ x ∷ [] ≡ bs ++ y ∷ after = cc in
    ⊎_elim (λ h. inl (ap₂ ◌∷◌ same h.0, h.1)) (λ h. inr (h.0, ap₂ ◌∷◌ same h.1)) (last_or_before zs bs after x y later)

pub none_deep : NoneTooDeep []
none_deep [] after t open_tags e h o = cc
none_deep (b ∷ bs) after t open_tags e h o = cc

-- with one more token, which opens no level too many
pub shallow_after : (ts : List Token) (t : Token) → NoneTooDeep ts → (is_start_or_empty t ≡ true → (open_tags : List Tag) → AreOpen open_tags ts → length open_tags < deepest)
    → NoneTooDeep (ts ++ t ∷ [])
shallow_after ts t h g before after u open_tags e start o =
    ⊎_elim (λ k. g (ap is_start_or_empty k.1 ∙ start) open_tags (subst (AreOpen open_tags) (sym k.0) o)) (λ k. h before k.0 u open_tags k.1 start o)
    (last_or_before ts before after t u e)

abbrev pub is_root_closed : List OpenElement → Option Tree → Bool
is_root_closed [] (Some t) = true
is_root_closed os root = false

abbrev pub is_twice : WrittenTag → Bool
is_twice t = some_twice is_written_same (map (λ (a : WrittenAttr). a.name) t.attrs)

-- but for the levels
pub record CanOpen (k : Kept) (t : WrittenTag) (o : OpenElement) : Type 0 where
  pub before_end : is_root_closed k.open_elements k.root ≡ false
  pub once : is_twice t ≡ false
  pub resolves : resolved k.open_elements t ≡ Some o

abbrev pub with_open : Kept → OpenElement → Kept
with_open k o = record (text_ended k) { open_elements = o ∷ (text_ended k).open_elements }

-- an empty tag opens it and closes it
abbrev pub then_closed : Built → Built
then_closed (Err e) = Err e
then_closed (Ok k) = Ok (element_closed k)

abbrev by_level : Kept → OpenElement → Built
by_level k o = if nat_le deepest (length k.open_elements) then Err misfit.TooDeep else Ok (with_open k o)

abbrev opened_with : Kept → Option OpenElement → Built
opened_with k None = misplaced
opened_with k (Some o) = by_level k o

-- no answer but the one for a misplaced token is of a refused tag
abbrev IsOther : Built → Type 0
IsOther r = r ≡ misplaced → ⊥

not_refused : (b : Bool) (x r : Built) → IsOther r → (if b then misplaced else x) ≡ r → (b ≡ false) × (x ≡ r)
not_refused true x r n e = absurd (n (sym e))
not_refused false x r n e = (refl, e)

some_open : (k : Kept) (o : Option OpenElement) (r : Built) → IsOther r → opened_with k o ≡ r → (p : OpenElement) × (o ≡ Some p) × (by_level k p ≡ r)
some_open k None r n e = absurd (n (sym e))
some_open k (Some o) r n e = (o, refl, e)

can_open : (k : Kept) (t : WrittenTag) (r : Built) → IsOther r → element_opened k t ≡ r → (o : OpenElement) × CanOpen k t o × (by_level k o ≡ r)
can_open k t r n e =
    let f = not_refused (is_root_closed k.open_elements k.root || is_twice t) (opened_with k (resolved k.open_elements t)) r n e in
    let g = or_parts (is_root_closed k.open_elements k.root) (is_twice t) f.0 in
    let h = some_open k (resolved k.open_elements t) r n f.1 in
    (h.0, record { before_end = g.0; once = g.1; resolves = h.1 }, h.2)

low : (k m : Kept) (o : OpenElement) (b : Bool) → nat_le deepest (length k.open_elements) ≡ b → (if b then Err misfit.TooDeep else Ok (with_open k o)) ≡ Ok m
    → (length k.open_elements < deepest) × (with_open k o ≡ m)
low k m o true h e = cc
low k m o false h e = (leb-false deepest (length k.open_elements) h, cc e)

high : (k : Kept) (o : OpenElement) (e : Misfit) (b : Bool) → nat_le deepest (length k.open_elements) ≡ b → (if b then Err misfit.TooDeep else Ok (with_open k o)) ≡ Err e
    → (e ≡ misfit.TooDeep) × (deepest ≤ length k.open_elements)
high k o e true h f = (cc f, leb-true deepest (length k.open_elements) h)
high k o e false h f = cc

pub opens : (k m : Kept) (t : WrittenTag) → element_opened k t ≡ Ok m → (o : OpenElement) × CanOpen k t o × (length k.open_elements < deepest) × (with_open k o ≡ m)
opens k m t e =
    let f = can_open k t (Ok m) (λ d. cc) e in
    let g = low k m f.0 _ refl f.2 in
    (f.0, f.1, g.0, g.1)

pub too_deep : (k : Kept) (t : WrittenTag) → element_opened k t ≡ Err misfit.TooDeep → (o : OpenElement) × CanOpen k t o × (deepest ≤ length k.open_elements)
too_deep k t e =
    let f = can_open k t (Err misfit.TooDeep) (λ d. cc) e in
    let g = high k f.0 misfit.TooDeep _ refl f.2 in
    (f.0, f.1, g.1)

-- what can be opened is refused for its level alone
pub refused : (k : Kept) (t : WrittenTag) (o : OpenElement) (e : Misfit) → CanOpen k t o → element_opened k t ≡ Err e → (e ≡ misfit.TooDeep) × (deepest ≤ length k.open_elements)
refused k t o e c f = high k o e _ refl (sym opened ∙ f)
  where
    opened : element_opened k t ≡ by_level k o
    opened = rw (c.before_end, c.once, c.resolves) refl
