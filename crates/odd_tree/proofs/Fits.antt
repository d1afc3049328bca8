-- Tokens that fit one after the other, the elements open after them, and how many bytes they take.
use Rattle.std.proofs.Common.{◌≡◌, Bool, true, false, List, [], ◌∷◌, ◌++◌, sym, refl, ap, ◌∙◌, append_assoc, append-nil, subst, ℕ, ◌+◌, length, length-append}
use Rattle.std.proofs.lemmas.Str.{encodes-append}
use Rattle.std.specs.List.{list_any}
use Rattle.std.specs.Str.{encode_utf8_all}
use Rattle.odd_text.specs.declared.name.Bind.{Bind}
use Rattle.odd_tokens.specs.Tokens.{Tag, Token, start_tag, empty_tag, end_tag, token_written, tokens_written, IsTag, size_of}
use Rattle.odd_tree.specs.Fitting.{is_start_or_empty, IsBalanced, nothing, piece, element, AreOpen, none, more, open_binds, innermost, Fits, AllFit}
use Rattle.odd_tree.specs.Names.{binds_of, NamesFit}

pub written-append : (xs ys : List Token) → tokens_written (xs ++ ys) ≡ tokens_written xs ++ tokens_written ys
written-append [] ys = refl
written-append (x ∷ xs) ys = ap (λ z. token_written x ++ z) (written-append xs ys) ∙ sym (append_assoc (token_written x) (tokens_written xs) (tokens_written ys))

-- which elements are open

pub balanced_append : {xs ys : List Token} → IsBalanced xs → IsBalanced ys → IsBalanced (xs ++ ys)
balanced_append nothing b = b
balanced_append (piece h a) b = piece h (balanced_append a b)
balanced_append {ys = ys} (element name space inside after a c e) b =
    element name space inside (after ++ ys) a (balanced_append c b) (ap (λ z. z ++ ys) e ∙ append_assoc inside (end_tag name space ∷ after) ys)

-- balanced tokens change nothing
pub open_after : {tags : List Tag} {before es : List Token} → AreOpen tags before → IsBalanced es → AreOpen tags (before ++ es)
open_after (none b) c = none (balanced_append b c)
open_after {es = es} (more {tag = tag} front inside b o e) c =
    more front (inside ++ es) b (open_after o c) (ap (λ z. z ++ es) e ∙ append_assoc front (start_tag tag ∷ inside) es)

-- a start tag opens one more
pub opened : (tag : Tag) {tags : List Tag} {before : List Token} → AreOpen tags before → AreOpen (tags ++ tag ∷ []) (before ++ start_tag tag ∷ [])
opened tag (none {ts = ts} b) = more ts [] b (none nothing) refl
opened tag (more {tag = u} front inside b o e) =
    more front (inside ++ start_tag tag ∷ []) b (opened tag o) (ap (λ z. z ++ start_tag tag ∷ []) e ∙ append_assoc front (start_tag u ∷ inside) (start_tag tag ∷ []))

pub binds_opened : (tags : List Tag) (tag : Tag) → open_binds (tags ++ tag ∷ []) ≡ open_binds tags ++ binds_of tag.attributes
binds_opened [] tag = append-nil (binds_of tag.attributes)
binds_opened (t ∷ ts) tag = ap (λ z. binds_of t.attributes ++ z) (binds_opened ts tag) ∙ sym (append_assoc (binds_of t.attributes) (open_binds ts) (binds_of tag.attributes))

pub innermost_opened : (u : Tag) (us : List Tag) (tag : Tag) → innermost u (us ++ tag ∷ []) ≡ tag
innermost_opened u [] tag = refl
innermost_opened u (v ∷ vs) tag = innermost_opened v vs tag

-- after these tokens some element is open, and these bindings are all that the open ones declare
pub record Inside (here : List Bind) (before : List Token) : Type 0 where
  pub outer : Tag
  pub inner : List Tag
  pub are_open : AreOpen (outer ∷ inner) before
  pub binds : open_binds (outer ∷ inner) ≡ here

abbrev pub current : {here : List Bind} {before : List Token} → Inside here before → Tag
current i = innermost i.outer i.inner

pub record Outside (before : List Token) : Type 0 where
  pub none_open : AreOpen [] before
  pub none_was : list_any is_start_or_empty before ≡ false

-- the bindings around an element of a file whose root alone declares any: around the root, and around another
abbrev pub around : Bool → List Bind → List Bind
around true here = []
around false here = here

-- the root, or another element, can begin
abbrev pub Ready : Bool → List Bind → List Token → Type 0
Ready true here before = Outside before
Ready false here before = Inside here before

abbrev pub inside_after : {here : List Bind} {before es : List Token} → Inside here before → IsBalanced es → Inside here (before ++ es)
inside_after i b = record { outer = i.outer; inner = i.inner; are_open = open_after i.are_open b; binds = i.binds }

pub tag_opened : (is_root : Bool) (here : List Bind) (tag : Tag) (before : List Token) → around is_root here ++ binds_of tag.attributes ≡ here → Ready is_root here before
    → (i : Inside here (before ++ start_tag tag ∷ [])) × (current i ≡ tag)
tag_opened true here tag before e r = (record { outer = tag; inner = []; are_open = opened tag r.none_open; binds = append-nil _ ∙ e }, refl)
tag_opened false here tag before e i = (
  record {
    outer = i.outer;
    inner = i.inner ++ tag ∷ [];
    are_open = opened tag i.are_open;
    binds = binds_opened (i.outer ∷ i.inner) tag ∙ ap (λ z. z ++ binds_of tag.attributes) i.binds ∙ e;
  },
  innermost_opened i.outer i.inner tag,
)

-- tags fit

pub start_fits : (is_root : Bool) (here : List Bind) (tag : Tag) (before : List Token) → IsTag tag → NamesFit (around is_root here) tag → Ready is_root here before
    → Fits before (start_tag tag)
start_fits true here tag before h n r = record { token = h; open_tags = []; are_open = r.none_open; fits_in = (r.none_was, n) }
start_fits false here tag before h n i = record { token = h; open_tags = i.outer ∷ i.inner; are_open = i.are_open; fits_in = rw i.binds n }

pub empty_fits : (is_root : Bool) (here : List Bind) (tag : Tag) (before : List Token) → IsTag tag → NamesFit (around is_root here) tag → Ready is_root here before
    → Fits before (empty_tag tag)
empty_fits true here tag before h n r = record { token = h; open_tags = []; are_open = r.none_open; fits_in = (r.none_was, n) }
empty_fits false here tag before h n i = record { token = h; open_tags = i.outer ∷ i.inner; are_open = i.are_open; fits_in = rw i.binds n }

pub end_fits : (here : List Bind) (tag : Tag) (before : List Token) → IsTag tag → (i : Inside here before) → current i ≡ tag → Fits before (end_tag tag.name [])
end_fits here tag before h i e = record { token = (h.named, refl); open_tags = i.outer ∷ i.inner; are_open = i.are_open; fits_in = sym (ap (λ (t : Tag). t.name) e) }

-- one after the other, they fit

abbrev pub FitAfter : List Token → List Token → Type 0
FitAfter before [] = Unit {0}
FitAfter before (t ∷ ts) = Fits before t × FitAfter (before ++ t ∷ []) ts

pub fit_append : (before xs ys : List Token) → FitAfter before xs → FitAfter (before ++ xs) ys → FitAfter before (xs ++ ys)
fit_append before [] ys a b = subst (λ z. FitAfter z ys) (append-nil before) b
fit_append before (x ∷ xs) ys a b =
    (a.0, fit_append (before ++ x ∷ []) xs ys a.1 (subst (λ z. FitAfter z ys) (sym (append_assoc before (x ∷ []) xs)) b))

fits_at : (front ts before after : List Token) (t : Token) → FitAfter front ts → ts ≡ before ++ t ∷ after → Fits (front ++ before) t
fits_at front [] [] after t f e = cc
fits_at front [] (b ∷ bs) after t f e = cc
fits_at front (x ∷ xs) [] after t f e =
    let same : x ≡ t = cc in
    subst (λ z. Fits z t) (sym (append-nil front)) (subst (Fits front) same f.0)
fits_at front (x ∷ xs) (b ∷ bs) after t f e =
    let same : x ≡ b = cc in
    let g : Fits ((front ++ x ∷ []) ++ bs) t = fits_at (front ++ x ∷ []) xs bs after t f.1 (cc) in
    subst (λ z. Fits (front ++ z ∷ bs) t) same (subst (λ z. Fits z t) (append_assoc front (x ∷ []) bs) g)

pub all_fit : (ts : List Token) → FitAfter [] ts → AllFit ts
all_fit ts f before after t e = fits_at [] ts before after t f e

-- texts

pub size_of_append : (xs ys : List ℕ) → size_of (xs ++ ys) ≡ size_of xs + size_of ys
size_of_append xs ys = ap length (encodes-append xs ys) ∙ length-append (encode_utf8_all xs) (encode_utf8_all ys)

-- tokens

abbrev pub bytes_of : List Token → List ℕ
bytes_of ts = encode_utf8_all (tokens_written ts)

pub bytes-append : (xs ys : List Token) → bytes_of (xs ++ ys) ≡ bytes_of xs ++ bytes_of ys
bytes-append xs ys = ap encode_utf8_all (written-append xs ys) ∙ encodes-append (tokens_written xs) (tokens_written ys)

-- how many bytes the tokens take
abbrev pub size : List Token → ℕ
size ts = size_of (tokens_written ts)

pub size_append : (xs ys : List Token) → size (xs ++ ys) ≡ size xs + size ys
size_append xs ys = ap size_of (written-append xs ys) ∙ size_of_append (tokens_written xs) (tokens_written ys)

pub size_cons : (t : Token) (ts : List Token) → size (t ∷ ts) ≡ size_of (token_written t) + size ts
size_cons t ts = size_of_append (token_written t) (tokens_written ts)
