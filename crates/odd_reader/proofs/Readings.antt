-- The tokens of a file are read as one tree.
use Rattle.std.proofs.Common.{◌≡◌, ◌≢◌, ℕ, ◌+◌, Bool, true, false, not, List, [], ◌∷◌, ◌++◌, sym, refl, ap, subst, ◌∙◌, append_assoc, map, Some}
use Rattle.std.proofs.lemmas.Bool.{and_from, not_from_true, or_right}
use Rattle.std.specs.List.{list_all}
use Rattle.odd_text.specs.declared.name.Bind.{Bind}
use Rattle.odd_tree.specs.declared.tree.Tree.{Tree, out-Tree, roll-Tree, roll-out-Tree}
use Rattle.odd_tree.specs.declared.tree.Node.{Node}
use Rattle.odd_tree.specs.Fitting.{is_tag, is_start_or_empty}
use Rattle.odd_tree.specs.Names.{binds_of}
use Rattle.odd_tokens.specs.Tokens.{Tag, Token, start_tag, empty_tag, end_tag, token_written, tokens_written, size_of}
use Rattle.odd_tree.specs.Spelled.{IsDocument}
use Rattle.odd_tree.specs.Trees.{HasTag, IsElement, empty, full, IsContent, nothing, piece, child}
use Rattle.odd_tokens.proofs.Characters.{Stops, same_front}

-- trees of one tag at one place, with the same children

same_tree : (t u : Tree) → (out-Tree t).name ≡ (out-Tree u).name → (out-Tree t).attrs ≡ (out-Tree u).attrs → (out-Tree t).binds ≡ (out-Tree u).binds
    → (out-Tree t).children ≡ (out-Tree u).children → (out-Tree t).at ≡ (out-Tree u).at → t ≡ u
same_tree t u n a b c p =
    let e : out-Tree t ≡ out-Tree u = λ i. record { name = n i; attrs = a i; binds = b i; children = c i; at = p i } in
    sym (roll-out-Tree t) ∙ ap roll-Tree e ∙ roll-out-Tree u

same_somes : {X : Type 0} (xs ys : List X) → map (λ (x : X). Some x) xs ≡ map (λ (x : X). Some x) ys → xs ≡ ys
same_somes [] [] e = refl
same_somes [] (y ∷ ys) e = cc
same_somes (x ∷ xs) [] e = cc
same_somes (x ∷ xs) (y ∷ ys) e = let f : xs ≡ ys = same_somes xs ys (cc) in cc

same_children : (around : List Bind) (at : ℕ) (tag : Tag) (t u : Tree) → HasTag around at tag t → HasTag around at tag u → (out-Tree t).children ≡ (out-Tree u).children → t ≡ u
same_children around at tag t u h k c =
    same_tree t u (cc (sym h.named ∙ k.named)) (same_somes _ _ (sym h.attributed ∙ k.attributed)) (h.bound ∙ sym k.bound) c (h.placed ∙ sym k.placed)

-- tags and other tokens

abbrev is_end : Token → Bool
is_end (end_tag name space) = true
is_end t = false

-- what follows is an end tag or nothing
abbrev pub ends_here : List Token → Bool
ends_here [] = true
ends_here (t ∷ ts) = is_end t

no_tag_ends : (t : Token) → is_tag t ≡ false → is_end t ≢ true
no_tag_ends (end_tag n s) h k = cc
no_tag_ends t h k = cc

no_start_ends : (t : Token) → is_start_or_empty t ≡ true → is_end t ≢ true
no_start_ends (end_tag n s) h k = cc
no_start_ends t h k = cc

start_is_tag : (t : Token) → is_start_or_empty t ≡ true → is_tag t ≢ false
start_is_tag (start_tag t) h k = cc
start_is_tag t h k = cc

-- an element begins with a start tag or an empty tag
pub element_begins : (around : List Bind) (at : ℕ) (es : List Token) (t : Tree) → IsElement around at es t → (x : Token) × (zs : List Token) × (is_start_or_empty x ≡ true) × (es ≡ x ∷ zs)
element_begins around at es t (empty {tag = tag} h c) = (empty_tag tag, [], refl, refl)
element_begins around at es t (full {tag = tag} {ts = ts} name space inside h c p) = (start_tag tag, ts, refl, refl)

none_here : (around : List Bind) (at : ℕ) (es after xs ys : List Token) (t : Tree) → IsElement around at es t → ends_here xs ≡ true → xs ≢ es ++ after ++ ys
none_here around at es after xs ys t d h e =
    let b = element_begins around at es t d in
    no_start_ends b.0 b.2 (rw (e ∙ ap (λ l. l ++ after ++ ys) b.3) at h)

no_piece : (around : List Bind) (at : ℕ) (x : Token) (xs es after : List Token) (t : Tree) → is_tag x ≡ false → IsElement around at es t → x ∷ xs ≢ es ++ after
no_piece around at x xs es after t h d e =
    let b = element_begins around at es t d in
    let f : x ∷ xs ≡ b.0 ∷ (b.1 ++ after) = e ∙ ap (λ l. l ++ after) b.3 in
    let g : x ≡ b.0 = cc f in
    start_is_tag b.0 b.2 (rw g at h)

-- what stands after a start tag
inside_parts : (ts inside xs : List Token) (end : Token) → ts ≡ inside ++ end ∷ [] → ts ++ xs ≡ inside ++ (end ∷ xs)
inside_parts ts inside xs end p = ap (λ l. l ++ xs) p ∙ append_assoc inside (end ∷ []) xs

two_parts : (ts es after xs : List Token) → ts ≡ es ++ after → ts ++ xs ≡ es ++ (after ++ xs)
two_parts ts es after xs p = ap (λ l. l ++ xs) p ∙ append_assoc es after xs

-- the same content under the same tag, token or element before it
abbrev IsUnder : List Bind → ℕ → Tag → List Token → List Node → Type 0
IsUnder around at g es ns = IsContent (around ++ binds_of g.attributes) (at + size_of (token_written (start_tag g))) es ns

under : (around : List Bind) (at : ℕ) (es : List Token) (ns : List Node) (g k : Tag) → g ≡ k → IsUnder around at k es ns → IsUnder around at g es ns
under around at es ns g k e h = subst (λ x. IsUnder around at x es ns) (sym e) h

after_token : (around : List Bind) (at : ℕ) (es : List Token) (ns : List Node) (t u : Token) → t ≡ u → IsContent around (at + size_of (token_written u)) es ns
    → IsContent around (at + size_of (token_written t)) es ns
after_token around at es ns t u e h = subst (λ x. IsContent around (at + size_of (token_written x)) es ns) (sym e) h

after_element : (around : List Bind) (at : ℕ) (es : List Token) (ns : List Node) (gs hs : List Token) → gs ≡ hs → IsContent around (at + size_of (tokens_written hs)) es ns
    → IsContent around (at + size_of (tokens_written gs)) es ns
after_element around at es ns gs hs e h = subst (λ x. IsContent around (at + size_of (tokens_written x)) es ns) (sym e) h

mutual
  read_element : (around : List Bind) (at : ℕ) (es fs xs ys : List Token) (t u : Tree) → IsElement around at es t → IsElement around at fs u → es ++ xs ≡ fs ++ ys
      → (es ≡ fs) × (t ≡ u) × (xs ≡ ys)
  read_element around at es fs xs ys t u (empty {tag = g} h c) (empty {tag = k} j d) e =
      let s : g ≡ k = cc in
      (ap (λ x. empty_tag x ∷ []) s, same_children around at g t u h (subst (λ x. HasTag around at x u) (sym s) j) (c ∙ sym d), cc e)
  read_element around at es fs xs ys t u (empty h c) (full name space inside j d p) e = cc
  read_element around at es fs xs ys t u (full name space inside h c p) (empty j d) e = cc
  read_element around at es fs xs ys t u (full {tag = g} {ts = ts} m v is h c p) (full {tag = k} {ts = us} n w js j d q) e =
      let s : g ≡ k = cc in
      let r : ts ++ xs ≡ us ++ ys = cc in
      let f = read_content (around ++ binds_of g.attributes) (at + size_of (token_written (start_tag g))) is js (end_tag m v ∷ xs) (end_tag n w ∷ ys) (out-Tree t).children (out-Tree u).children
      c (under around at js (out-Tree u).children g k s d) refl refl (sym (inside_parts ts is xs (end_tag m v) p) ∙ r ∙ inside_parts us js ys (end_tag n w) q) in
      (cc (s, p, q, f.0, f.2), same_children around at g t u h (subst (λ x. HasTag around at x u) (sym s) j) f.1, cc f.2)

  read_content : (around : List Bind) (at : ℕ) (es fs xs ys : List Token) (ms ns : List Node) → IsContent around at es ms → IsContent around at fs ns
      → ends_here xs ≡ true → ends_here ys ≡ true → es ++ xs ≡ fs ++ ys → (es ≡ fs) × (ms ≡ ns) × (xs ≡ ys)
  read_content around at es fs xs ys ms ns nothing nothing a b e = (refl, refl, e)
  read_content around at es fs xs ys ms ns nothing (piece {t = y} later h c p) a b e = absurd (no_tag_ends y h (rw e at a))
  read_content around at es fs xs ys ms ns nothing (child {t = u} gs after d c p) a b e =
      absurd (none_here around at gs after xs ys u d a (e ∙ ap (λ l. l ++ ys) p))
  read_content around at es fs xs ys ms ns (piece {t = x} later h c p) nothing a b e = absurd (no_tag_ends x h (rw (← e) at b))
  read_content around at es fs xs ys ms ns (piece {t = x} {ts = ts} later h c p) (piece {t = y} {ts = us} last k d q) a b e =
      let s : x ≡ y = cc in
      let r : ts ++ xs ≡ us ++ ys = cc in
      let f = read_content around (at + size_of (token_written x)) ts us xs ys later last c (after_token around at us last x y s d) a b r in
      (cc (s, f.0), cc (p, q, s, f.0, f.1), f.2)
  read_content around at es fs xs ys ms ns (piece {t = x} {ts = ts} later h c p) (child {t = u} gs after i d q) a b e =
      absurd (no_piece around at x (ts ++ xs) gs (after ++ ys) u h i (e ∙ two_parts fs gs after ys q))
  read_content around at es fs xs ys ms ns (child {t = t} gs after i d q) nothing a b e =
      absurd (none_here around at gs after ys xs t i b (sym e ∙ ap (λ l. l ++ xs) q))
  read_content around at es fs xs ys ms ns (child {t = t} gs after i d q) (piece {t = y} {ts = us} later h c p) a b e =
      absurd (no_piece around at y (us ++ ys) gs (after ++ xs) t h i (sym e ∙ two_parts es gs after xs q))
  read_content around at es fs xs ys ms ns (child {t = t} {later = later} gs after i c p) (child {t = u} {later = more} hs last j d q) a b e =
      let f = read_element around at gs hs (after ++ xs) (last ++ ys) t u i j (sym (two_parts es gs after xs p) ∙ e ∙ two_parts fs hs last ys q) in
      let g = read_content around (at + size_of (tokens_written gs)) after last xs ys later more c (after_element around at last more gs hs f.0 d) a b f.2 in
      (cc (p, q, f.0, g.0), cc (f.1, g.1), g.2)

pub one_element : (around : List Bind) (at : ℕ) (es fs xs ys : List Token) (t u : Tree) → IsElement around at es t → IsElement around at fs u → es ++ xs ≡ fs ++ ys → (es ≡ fs) × (t ≡ u)
one_element around at es fs xs ys t u i j e = let f = read_element around at es fs xs ys t u i j e in (f.0, f.1)

-- documents

abbrev is_no_tag : Token → Bool
is_no_tag t = not (is_tag t)

no_tags : (ts : List Token) → ((before after : List Token) (t : Token) → ts ≡ before ++ t ∷ after → is_tag t ≡ false) → list_all is_no_tag ts ≡ true
no_tags [] h = refl
no_tags (t ∷ ts) h =
    let f : is_no_tag t ≡ true = ap not (h [] ts t refl) in
    and_from _ _ f (no_tags ts (λ before after u e. h (t ∷ before) after u (ap (λ l. t ∷ l) e)))

element_stops : (around : List Bind) (at : ℕ) (es after : List Token) (t : Tree) → IsElement around at es t → Stops is_no_tag (es ++ after)
element_stops around at es after t d =
    let b = element_begins around at es t d in
    rw b.3 (not_from_true _ (or_right _ _ b.2))

three_parts : (ts before root after : List Token) → ts ≡ before ++ root ++ after → ts ≡ before ++ (root ++ after)
three_parts ts before root after e = e ∙ append_assoc before root after

pub one_document : (at : ℕ) (ts : List Token) (t u : Tree) → IsDocument at ts t → IsDocument at ts u → t ≡ u
one_document at ts t u d c =
    let f = same_front is_no_tag d.before c.before (d.root ++ d.after) (c.root ++ c.after) (no_tags d.before d.none_before) (no_tags c.before c.none_before)
    (element_stops [] _ d.root d.after t d.element) (element_stops [] _ c.root c.after u c.element)
    (sym (three_parts ts d.before d.root d.after d.parts) ∙ three_parts ts c.before c.root c.after c.parts) in
    (one_element [] (at + size_of (tokens_written d.before)) d.root c.root d.after c.after t u d.element (subst (λ x. IsElement [] (at + size_of (tokens_written x)) c.root u) (sym f.0) c.element) f.1).1
