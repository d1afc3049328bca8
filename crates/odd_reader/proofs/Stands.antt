-- How the tokens so far brought the builder to where it stands: which token it takes, and which tree it made.
use Rattle.std.proofs.Common.{◌≡◌, ◌≤◌, Bool, true, false, ◌&&◌, ◌==◌, if◌then◌else◌, ℕ, List, [], ◌∷◌, ◌++◌, length, Option, Some, None, Ok, Err, refl, sym, ap, ◌∙◌, subst, ◌<◌, ◌+◌}
use Rattle.std.proofs.lemmas.Bool.{and_parts, both_ways, false_from_ne_true, eqb-true, or_parts}
use Rattle.std.proofs.lemmas.List.Folds.{list_any-append}
use Rattle.std.specs.List.{list_any}
use Rattle.odd_tokens.proofs.LexedSteps.{IsLexed}
use Rattle.odd_tokens.specs.Characters.{is_space}
use Rattle.odd_tokens.specs.Making.{name_made, tag_made, token_made}
use Rattle.odd_tokens.specs.Tokens.{QName, Tag, Token, character, referred, cdata, comment, instruction, start_tag, empty_tag, end_tag, IsTag, tokens_written, size_of}
use Rattle.odd_tree.proofs.Fits.{size}
use Rattle.odd_tree.specs.Fitting.{is_start_or_empty, Fits, FitsIn, AreOpen}
use Rattle.odd_tree.specs.Names.{NamesFit}
use Rattle.odd_tree.specs.Spelled.{IsDocument, deepest}
use Rattle.odd_tree.specs.declared.tree.Tree.{Tree}
use Rattle.odd_reader.proofs.Readings.{element_begins}
use Rattle.odd_reader.proofs.StandsLevels.{StandsIn, inside_open, inside_more}
use Rattle.odd_reader.proofs.StandsOpen.{one_open, is_root_closed, CanOpen, refused, then_closed, opens, too_deep}
use Rattle.odd_reader.proofs.StandsTags.{fits_resolved}
use Rattle.odd_reader.proofs.StandsTaken.{kept, outer_open, StandsOf, Taken, same_ok, document_balanced, character_taken, passed_taken, referred_taken, cdata_taken, tag_fits, start_taken, empty_taken, end_taken, other_after, closed_after}
use Rattle.odd_reader.proofs.StandsTexts.{last_brackets, no_tags_no_element}
use Rattle.odd_reader.proofs.TwoAlike.{same_written, once_written}
use Rattle.odd_reader.specs.Building.{Kept, Built, misplaced, build, is_brackets, then_other, begun, element_opened}
use Rattle.odd_reader.specs.Resolving.{around, is_written_same}
use Rattle.odd_reader.specs.declared.builder.Last.{Last}
use Rattle.odd_reader.specs.declared.element.OpenElement.{OpenElement}
use Rattle.odd_reader.specs.declared.misfit.Misfit.{Misfit}
use Rattle.odd_reader.specs.declared.misfit.Misfit.TheVariants as misfit

-- the level is one too many
abbrev pub IsDeep : List OpenElement → Token → Misfit → Type 0
IsDeep os t e = (e ≡ misfit.TooDeep) × (is_start_or_empty t ≡ true) × (deepest ≤ length os)

-- where the token has its place

fits_outside : (start : ℕ) (ts : List Token) (root : Option Tree) (text : List ℕ) (l : Last) (t : Token) → StandsIn start ts [] root text l → Fits ts t → FitsIn ts [] t
fits_outside start ts root text l t s f = subst (λ gs. FitsIn ts gs t) (one_open f.open_tags [] ts f.are_open (outer_open start ts root text l s)) f.fits_in

-- a document has an element

pub some_element : (start : ℕ) (ts : List Token) (u : Tree) → IsDocument start ts u → list_any is_start_or_empty ts ≡ false → ⊥
some_element start ts u d h =
    let b = element_begins [] _ d.root u d.element in
    let f = or_parts (list_any is_start_or_empty (d.before ++ d.root)) (list_any is_start_or_empty d.after)
    (sym (list_any-append is_start_or_empty (d.before ++ d.root) d.after) ∙ sym (ap (list_any is_start_or_empty) d.parts) ∙ h) in
    let g = or_parts (list_any is_start_or_empty d.before) (list_any is_start_or_empty d.root) (sym (list_any-append is_start_or_empty d.before d.root) ∙ f.0) in
    let k = or_parts (is_start_or_empty b.0) (list_any is_start_or_empty b.1) (sym (ap (list_any is_start_or_empty) b.3) ∙ g.1) in
    both_ways _ k.0 b.2

pub fits_before_end : (start : ℕ) (ts : List Token) (root : Option Tree) (text : List ℕ) (l : Last) → StandsIn start ts [] root text l → list_any is_start_or_empty ts ≡ false
    → is_root_closed [] root ≡ false
fits_before_end start ts None text l s h = refl
fits_before_end start ts (Some u) text l s h = absurd (some_element start ts u s.0 h)

-- tags

can_open : (os : List OpenElement) (root : Option Tree) (text : List ℕ) (l : Last) (at : ℕ) (tag : Tag) → is_root_closed os root ≡ false → IsTag tag → NamesFit (around os) tag
    → (o : OpenElement) × CanOpen (kept os root text l) (tag_made at tag) o
can_open os root text l at tag h t f =
    let r = fits_resolved os at tag f in
    (r.0, record { before_end = h; once = once_written tag.attributes t.once; resolves = r.1 })

-- a tag that fits can be opened
tag_opens : (start at : ℕ) (ts : List Token) (tag : Tag) (os : List OpenElement) (root : Option Tree) (text : List ℕ) (l : Last) → StandsIn start ts os root text l → Fits ts (start_tag tag)
    → (o : OpenElement) × CanOpen (kept os root text l) (tag_made at tag) o
tag_opens start at ts tag [] root text l s f =
    let p = fits_outside start ts root text l (start_tag tag) s f in
    can_open [] root text l at tag (fits_before_end start ts root text l s p.0) f.token p.1
tag_opens start at ts tag (q ∷ os) (Some u) text l s f = absurd s
tag_opens start at ts tag (q ∷ os) None text l s f =
    let g = inside_open s in
    let p : FitsIn ts (g.outer ∷ g.inner) (start_tag tag) = subst (λ gs. FitsIn ts gs (start_tag tag)) (one_open f.open_tags (g.outer ∷ g.inner) ts f.are_open g.are_open) f.fits_in in
    can_open (q ∷ os) None text l at tag refl f.token (subst (λ b. NamesFit b tag) g.binds p)

-- an empty tag fits where the start tag does
as_start : (ts : List Token) (tag : Tag) (gs : List Tag) → FitsIn ts gs (empty_tag tag) → FitsIn ts gs (start_tag tag)
as_start ts tag [] f = f
as_start ts tag (g ∷ gs) f = f

start_fits : (ts : List Token) (tag : Tag) → Fits ts (empty_tag tag) → Fits ts (start_tag tag)
start_fits ts tag f = record { token = f.token; open_tags = f.open_tags; are_open = f.are_open; fits_in = as_start ts tag f.open_tags f.fits_in }

pub other_refused : (b : Built) (e : Misfit) → then_other b ≡ Err e → b ≡ Err e
other_refused (Err f) e h = h
other_refused (Ok k) e h = cc

pub closed_refused : (b : Built) (e : Misfit) → then_closed b ≡ Err e → b ≡ Err e
closed_refused (Err f) e h = h
closed_refused (Ok k) e h = cc

start_refused : (start at : ℕ) (ts : List Token) (tag : Tag) (os : List OpenElement) (root : Option Tree) (text : List ℕ) (l : Last) (e : Misfit) → StandsIn start ts os root text l
    → Fits ts (start_tag tag) → build (kept os root text l) (token_made at (start_tag tag)) ≡ Err e → IsDeep os (start_tag tag) e
start_refused start at ts tag os root text l e s f h =
    let c = tag_opens start at ts tag os root text l s f in
    let r = refused (kept os root text l) (tag_made at tag) c.0 e c.1 (other_refused _ e h) in
    (r.0, refl, r.1)

empty_refused : (start at : ℕ) (ts : List Token) (tag : Tag) (os : List OpenElement) (root : Option Tree) (text : List ℕ) (l : Last) (e : Misfit) → StandsIn start ts os root text l
    → Fits ts (empty_tag tag) → build (kept os root text l) (token_made at (empty_tag tag)) ≡ Err e → IsDeep os (empty_tag tag) e
empty_refused start at ts tag os root text l e s f h =
    let c = tag_opens start at ts tag os root text l s (start_fits ts tag f) in
    let r = refused (kept os root text l) (tag_made at tag) c.0 e c.1 (closed_refused _ e (other_refused _ e h)) in
    (r.0, refl, r.1)

-- tokens that are no start of an element

never : (P : Type 0) (b : Bool) (k : Kept) (e : Misfit) → b ≡ true → (if b then Ok k else misplaced) ≡ Err e → P
never P true k e h f = cc
never P false k e h f = cc

never_else : (P : Type 0) (b : Bool) (k : Kept) (e : Misfit) → b ≡ false → (if b then misplaced else Ok k) ≡ Err e → P
never_else P true k e h f = cc
never_else P false k e h f = cc

-- in an element

fits_inside : (start : ℕ) (ts : List Token) (t : Token) (o : OpenElement) (os : List OpenElement) (text : List ℕ) (l : Last) (s : StandsIn start ts (o ∷ os) None text l) → Fits ts t
    → FitsIn ts ((inside_open s).outer ∷ (inside_open s).inner) t
fits_inside start ts t o os text l s f =
    let g = inside_open s in
    subst (λ gs. FitsIn ts gs t) (one_open f.open_tags (g.outer ∷ g.inner) ts f.are_open g.are_open) f.fits_in

character_refused : (start at c : ℕ) (ts : List Token) (os : List OpenElement) (root : Option Tree) (text : List ℕ) (l : Last) (e : Misfit) → StandsIn start ts os root text l
    → Fits ts (character c) → build (kept os root text l) (token_made at (character c)) ≡ Err e → IsDeep os (character c) e
character_refused start at c ts [] root text l e s f h = never _ (is_space c) _ e (fits_outside start ts root text l (character c) s f) h
character_refused start at c ts (o ∷ os) (Some u) text l e s f h = absurd s
character_refused start at c ts (o ∷ os) None text l e s f h =
    never_else _ (c == 0x3E && is_brackets l) _ e (false_from_ne_true _ (λ b.
    let p = and_parts (c == 0x3E) (is_brackets l) b in
    fits_inside start ts (character c) o os text l s f (eqb-true c 0x3E p.0) (last_brackets ts (sym (ap is_brackets s.last_of_all) ∙ p.1)))) h

end_refused : (start at : ℕ) (name : QName) (space : List ℕ) (ts : List Token) (os : List OpenElement) (root : Option Tree) (text : List ℕ) (l : Last) (e : Misfit)
    → StandsIn start ts os root text l
    → Fits ts (end_tag name space) → build (kept os root text l) (token_made at (end_tag name space)) ≡ Err e → IsDeep os (end_tag name space) e
end_refused start at name space ts [] root text l e s f h = absurd (fits_outside start ts root text l (end_tag name space) s f)
end_refused start at name space ts (o ∷ os) (Some u) text l e s f h = absurd s
end_refused start at name space ts (o ∷ os) None text l e s f h =
    let p = fits_inside start ts (end_tag name space) o os text l s f in
    never _ (is_written_same o.written (name_made name)) _ e (same_written _ _ (sym (inside_open s).name ∙ sym (ap name_made p))) h

pub fits_refused : (start at : ℕ) (ts : List Token) (t : Token) (os : List OpenElement) (root : Option Tree) (text : List ℕ) (l : Last) (e : Misfit) → StandsIn start ts os root text l
    → Fits ts t → build (kept os root text l) (token_made at t) ≡ Err e → IsDeep os t e
fits_refused start at ts (character c) os root text l e s f h = character_refused start at c ts os root text l e s f h
fits_refused start at ts (referred r) [] root text l e s f h = absurd (fits_outside start ts root text l (referred r) s f)
fits_refused start at ts (referred r) (o ∷ os) root text l e s f h = cc h
fits_refused start at ts (cdata body) [] root text l e s f h = absurd (fits_outside start ts root text l (cdata body) s f)
fits_refused start at ts (cdata body) (o ∷ os) root text l e s f h = cc h
fits_refused start at ts (comment body) os root text l e s f h = cc h
fits_refused start at ts (instruction target rest) os root text l e s f h = cc h
fits_refused start at ts (start_tag tag) os root text l e s f h = start_refused start at ts tag os root text l e s f h
fits_refused start at ts (empty_tag tag) os root text l e s f h = empty_refused start at ts tag os root text l e s f h
fits_refused start at ts (end_tag name space) os root text l e s f h = end_refused start at name space ts os root text l e s f h

-- the tokens, which begin at the byte, brought the builder to what it keeps
pub record Stands (start : ℕ) (ts : List Token) (k : Kept) : Type 0 where
  pub stands : StandsOf start ts k

pub nothing_stands : (start : ℕ) → Stands start [] begun
nothing_stands start = record { stands = (tt, refl) }

-- what is taken fits

taken_in : (start : ℕ) (ts : List Token) (t : Token) (os : List OpenElement) (root : Option Tree) (text : List ℕ) (l : Last) (m : Kept) → StandsIn start ts os root text l → IsLexed t
    → build (kept os root text l) (token_made (start + size ts) t) ≡ Ok m → Taken start ts t m
taken_in start ts (character c) os root text l m s h e = character_taken start (start + size ts) c ts os root text l m s h e
taken_in start ts (referred r) os root text l m s h e = referred_taken start (start + size ts) r ts os root text l m s h e
taken_in start ts (cdata body) os root text l m s h e = cdata_taken start (start + size ts) body ts os root text l m s h e
taken_in start ts (comment body) os root text l m s h e =
    passed_taken start (comment body) ts os root text l m s refl h tt (λ g gs. tt) (λ o os x i. inside_more (comment body) refl i) (same_ok _ m e)
taken_in start ts (instruction target rest) os root text l m s h e =
    passed_taken start (instruction target rest) ts os root text l m s refl h tt (λ g gs. tt) (λ o os x i. inside_more (instruction target rest) refl i) (same_ok _ m e)
taken_in start ts (start_tag tag) os root text l m s h e = start_taken start tag ts os root text l m s h e
taken_in start ts (empty_tag tag) os root text l m s h e = empty_taken start tag ts os root text l m s h e
taken_in start ts (end_tag name space) os root text l m s h e = end_taken start (start + size ts) name space ts os root text l m s h e

pub taken_stands : (start : ℕ) (ts : List Token) (t : Token) (k m : Kept) → Stands start ts k → IsLexed t → build k (token_made (start + size_of (tokens_written ts)) t) ≡ Ok m
    → Fits ts t × Stands start (ts ++ t ∷ []) m
taken_stands start ts t k m s h e =
    let f = taken_in start ts t k.open_elements k.root k.text k.last m s.stands h e in
    (f.0, record { stands = f.1 })

-- what is too deep fits

abbrev Deep : List Token → Token → List OpenElement → Type 0
Deep ts t os = Fits ts t × (is_start_or_empty t ≡ true) × (deepest ≤ length os)

no_depth : (P : Type 0) (b : Bool) (k : Kept) → (if b then Ok k else misplaced) ≡ Err misfit.TooDeep → P
no_depth P true k e = cc
no_depth P false k e = cc

no_depth_else : (P : Type 0) (b : Bool) (k : Kept) → (if b then misplaced else Ok k) ≡ Err misfit.TooDeep → P
no_depth_else P true k e = cc
no_depth_else P false k e = cc

too_deep_in : (start at : ℕ) (ts : List Token) (t : Token) (os : List OpenElement) (root : Option Tree) (text : List ℕ) (l : Last) → StandsIn start ts os root text l → IsLexed t
    → build (kept os root text l) (token_made at t) ≡ Err misfit.TooDeep → Deep ts t os
too_deep_in start at ts (character c) [] root text l s h e = no_depth _ (is_space c) _ e
too_deep_in start at ts (character c) (o ∷ os) root text l s h e = no_depth_else _ (c == 0x3E && is_brackets l) _ e
too_deep_in start at ts (referred r) [] root text l s h e = cc e
too_deep_in start at ts (referred r) (o ∷ os) root text l s h e = cc e
too_deep_in start at ts (cdata body) [] root text l s h e = cc e
too_deep_in start at ts (cdata body) (o ∷ os) root text l s h e = cc e
too_deep_in start at ts (comment body) os root text l s h e = cc e
too_deep_in start at ts (instruction target rest) os root text l s h e = cc e
too_deep_in start at ts (start_tag tag) os root text l s h e =
    let f = too_deep (kept os root text l) (tag_made at tag) (other_refused _ misfit.TooDeep e) in
    ((tag_fits start at tag ts os root text l f.0 s h f.1).0, refl, f.2)
too_deep_in start at ts (empty_tag tag) os root text l s h e =
    let f = too_deep (kept os root text l) (tag_made at tag) (closed_refused _ misfit.TooDeep (other_refused _ misfit.TooDeep e)) in
    ((tag_fits start at tag ts os root text l f.0 s h f.1).1, refl, f.2)
too_deep_in start at ts (end_tag name space) [] root text l s h e = cc e
too_deep_in start at ts (end_tag name space) (o ∷ os) root text l s h e = no_depth _ (is_written_same o.written (name_made name)) _ e

pub too_deep_fits : (start at : ℕ) (ts : List Token) (t : Token) (k : Kept) → Stands start ts k → IsLexed t → build k (token_made at t) ≡ Err misfit.TooDeep
    → Fits ts t × (is_start_or_empty t ≡ true) × (deepest ≤ length k.open_elements)
too_deep_fits start at ts t k s h e = too_deep_in start at ts t k.open_elements k.root k.text k.last s.stands h e

-- what fits is taken, or too deep
pub fit_taken : (start at : ℕ) (ts : List Token) (t : Token) (k : Kept) (e : Misfit) → Stands start ts k → Fits ts t → build k (token_made at t) ≡ Err e
    → (e ≡ misfit.TooDeep) × (is_start_or_empty t ≡ true) × (deepest ≤ length k.open_elements)
fit_taken start at ts t k e s f h = fits_refused start at ts t k.open_elements k.root k.text k.last e s.stands f h

-- an element opens only where it is not too deep

start_shallow : (k m : Kept) (at : ℕ) (tag : Tag) → element_opened k (tag_made at tag) ≡ Ok m → length k.open_elements < deepest
start_shallow k m at tag e = (opens k m (tag_made at tag) e).2

pub taken_shallow : (k m : Kept) (at : ℕ) (t : Token) → is_start_or_empty t ≡ true → build k (token_made at t) ≡ Ok m → length k.open_elements < deepest
taken_shallow k m at (start_tag tag) h e = let f = other_after _ m e in start_shallow k f.0 at tag f.1
taken_shallow k m at (empty_tag tag) h e = let f = other_after _ m e in let g = closed_after _ f.0 f.1 in start_shallow k g.0 at tag g.1
taken_shallow k m at t h e = cc h

-- what is open

open_in : (start : ℕ) (ts : List Token) (os : List OpenElement) (root : Option Tree) (text : List ℕ) (l : Last) → StandsIn start ts os root text l
    → (open_tags : List Tag) × AreOpen open_tags ts × (length open_tags ≡ length os)
open_in start ts [] root text l s = ([], outer_open start ts root text l s, refl)
open_in start ts (o ∷ os) (Some u) text l s = absurd s
open_in start ts (o ∷ os) None text l s = let g = inside_open s in (g.outer ∷ g.inner, g.are_open, g.count)

pub stands_open : (start : ℕ) (ts : List Token) (k : Kept) → Stands start ts k → (open_tags : List Tag) × AreOpen open_tags ts × (length open_tags ≡ length k.open_elements)
stands_open start ts k s = open_in start ts k.open_elements k.root k.text k.last s.stands

-- where the root is closed, the tokens are a document, and only there

closed_at : (start : ℕ) (ts : List Token) (os : List OpenElement) (root : Option Tree) (text : List ℕ) (l : Last) (u : Tree) → StandsIn start ts os root text l → root ≡ Some u
    → (os ≡ []) × IsDocument start ts u
closed_at start ts [] None text l u s e = cc e
closed_at start ts [] (Some v) text l u s e = let f : v ≡ u = cc e in (refl, subst (IsDocument start ts) f s.0)
closed_at start ts (o ∷ os) None text l u s e = cc e
closed_at start ts (o ∷ os) (Some v) text l u s e = absurd s

pub stands_closed : (start : ℕ) (ts : List Token) (k : Kept) (u : Tree) → Stands start ts k → k.root ≡ Some u → (k.open_elements ≡ []) × IsDocument start ts u
stands_closed start ts k u s e = closed_at start ts k.open_elements k.root k.text k.last u s.stands e

document_at : (start : ℕ) (ts : List Token) (os : List OpenElement) (root : Option Tree) (text : List ℕ) (l : Last) (t : Tree) → StandsIn start ts os root text l → IsDocument start ts t
    → (u : Tree) × (root ≡ Some u)
document_at start ts os (Some u) text l t s d = (u, refl)
document_at start ts [] None text l t s d = absurd (some_element start ts t d (no_tags_no_element ts s.0))
document_at start ts (o ∷ os) None text l t s d =
    let g = inside_open s in
    let same : [] ≡ g.outer ∷ g.inner = one_open [] (g.outer ∷ g.inner) ts (document_balanced start ts t d) g.are_open in
    cc same

pub document_stands : (start : ℕ) (ts : List Token) (k : Kept) (t : Tree) → Stands start ts k → IsDocument start ts t → (u : Tree) × (k.root ≡ Some u)
document_stands start ts k t s d = document_at start ts k.open_elements k.root k.text k.last t s.stands d
