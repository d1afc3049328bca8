-- A file spells one tree, or is refused at one place: its fault, or its first level too many.
use Rattle.std.proofs.Common.{◌≡◌, ℕ, List, [], sym, subst₂, ⊎_elim, ◌+◌, ◌<◌, ◌≤◌, true, ◌∷◌, ◌++◌, length, inr, refl, ap, ◌∙◌, subst, append_assoc, append-nil, arith}
use Rattle.std.specs.Str.{encode_utf8_all}
use Rattle.odd_tokens.specs.Openings.{opening_written}
use Rattle.odd_tokens.specs.Tokens.{Token, size_of, Tag, start_tag, token_written}
use Rattle.odd_tree.proofs.Fits.{bytes_of}
use Rattle.odd_tree.specs.Fitting.{IsBalanced, AreOpen, none, more, Fits, is_start_or_empty}
use Rattle.odd_tree.specs.Spelled.{IsDocument, Spells, NoneFits, Begins, GivesTree, IsWholeOpening, NoneTooDeep, DepthPlace, IsNotXml, deepest}
use Rattle.odd_tree.specs.declared.tree.Tree.{Tree}
use Rattle.odd_reader.proofs.Places.{nothing_opens, same_end, some_bytes, whole_opening, Longer, begin_alike, fault_comes_later, first_deep, first_of_bytes}
use Rattle.odd_reader.proofs.Readings.{one_document}

-- no token begins where nothing is left
pub none_at_end : (ts : List Token) → NoneFits ts []
none_at_end ts t more_bytes f e = some_bytes t more_bytes f.token (sym e)

pub one_tree : (bytes : List ℕ) (t u : Tree) → Spells bytes t → Spells bytes u → t ≡ u
one_tree bytes t u a b =
    let same = same_end a.whole b.whole (whole_opening a.whole (λ f. nothing_opens a.whole.opening.mark)) (none_at_end a.whole.tokens) in
    one_document (size_of (opening_written a.whole.opening)) a.whole.tokens t u a.document
    (subst₂ (λ (n : ℕ) (ts : List Token). IsDocument n ts u) same.2 same.0 b.document)

module _ {bytes left : List ℕ} (b : Begins bytes left) (w : IsWholeOpening bytes b.opening) (shallow : NoneTooDeep b.tokens) (n : NoneFits b.tokens left) where
  -- no tag that fits opens a level too many
  pub not_deep : (p : ℕ) → DepthPlace bytes p → ⊥
  not_deep p d = ⊎_elim longer others (begin_alike b d.begins w d.opened)
    where
      longer : Longer b.tokens d.begins.tokens left d.left → ⊥
      longer ([], g, k) = n d.tag d.more (subst (λ ts. Fits ts d.tag) (g ∙ append-nil b.tokens) d.fits) (k ∙ d.follows)
      longer (v ∷ vs, g, k) = n v (bytes_of vs ++ d.left) (d.begins.all_fit b.tokens vs v g) (k ∙ first_of_bytes v vs d.left)

      others : Longer d.begins.tokens b.tokens d.left left → ⊥
      others g =
          let f = first_deep bytes left p d b.tokens b.all_fit shallow g in
          n d.tag d.more (subst (λ ts. Fits ts d.tag) (sym f.0) d.fits) (sym f.1 ∙ d.follows)

  -- where no token that fits goes on, and the tokens are no document at the end of the file
  pub fault_at : (place : ℕ) → place + length left ≡ length bytes → (left ≡ [] → (t : Tree) → IsDocument (size_of (opening_written b.opening)) b.tokens t → ⊥)
      → IsNotXml bytes place
  fault_at place placed none_ends = record {
    fault = record { spells_none = spells_none; left = left; begins = b; opened = w; placed = placed; stops = inr n };
    not_deep = not_deep;
  }
    where
      spells_none : (t : Tree) → Spells bytes t → ⊥
      spells_none t s =
          let same = same_end b s.whole w n in
          none_ends same.1 t (subst₂ (λ (k : ℕ) (ts : List Token). IsDocument k ts t) same.2 same.0 s.document)

-- a file that gives a tree has no level too many
pub gives_not_deep : (bytes : List ℕ) (t : Tree) (p : ℕ) → GivesTree bytes t → DepthPlace bytes p → ⊥
gives_not_deep bytes t p g d =
    let whole = g.spelled.whole in
    not_deep whole (whole_opening whole (λ f. nothing_opens whole.opening.mark)) g.shallow (none_at_end whole.tokens) p d

-- the innermost open element, which stands where one less was open
record IsInnermost (tags : List Tag) (ts : List Token) : Type 0 where
  before : List Token
  after : List Token
  tag : Tag
  others : List Tag
  parts : ts ≡ before ++ start_tag tag ∷ after
  are_open : AreOpen others before
  count : length others ≡ length tags

innermost_more : (tag : Tag) (tags : List Tag) (front inside ts : List Token) → IsBalanced front → AreOpen tags inside → ts ≡ front ++ start_tag tag ∷ inside
    → IsInnermost tags ts
innermost_more tag [] front inside ts b o e = record { before = front; after = inside; tag = tag; others = []; parts = e; are_open = none b; count = refl }
innermost_more tag (u ∷ us) front inside ts b (more middle last c o f) e =
    let i = innermost_more u us middle last inside c o f in
    record {
      before = front ++ start_tag tag ∷ i.before;
      after = i.after;
      tag = i.tag;
      others = tag ∷ i.others;
      parts = e ∙ ap (λ xs. front ++ start_tag tag ∷ xs) i.parts ∙ sym (append_assoc front (start_tag tag ∷ i.before) (start_tag i.tag ∷ i.after));
      are_open = more front i.before b i.are_open refl;
      count = omega (arith, i.count);
    }

-- where no tag opens a level too many, no more are open than may be
pub not_too_many : (tags : List Tag) (ts : List Token) → AreOpen tags ts → NoneTooDeep ts → length tags ≤ deepest
not_too_many [] ts o n = omega arith
not_too_many (tag ∷ tags) ts (more front inside b o e) n =
    let i = innermost_more tag tags front inside ts b o e in
    let low : length i.others < deepest = n i.before i.after (start_tag i.tag) i.others i.parts refl i.are_open in
    omega (arith, i.count, low)

-- where a tag goes on that fits, and as many elements are open as may be
pub depth_at : {bytes left : List ℕ} (b : Begins bytes left) (w : IsWholeOpening bytes b.opening) → NoneTooDeep b.tokens → (place : ℕ) → place + length left ≡ length bytes
    → (t : Token) (more_bytes : List ℕ) → Fits b.tokens t → is_start_or_empty t ≡ true → left ≡ encode_utf8_all (token_written t) ++ more_bytes
    → (tags : List Tag) → AreOpen tags b.tokens → deepest ≤ length tags → DepthPlace bytes place
depth_at {bytes = bytes} {left = left} b w shallow place placed t more_bytes fits is_tag follows tags are_open many =
    let few = not_too_many tags b.tokens are_open shallow in
    record {
      left = left;
      begins = b;
      opened = w;
      placed = placed;
      open_tags = tags;
      are_open = are_open;
      full = omega (arith, few, many);
      first = shallow;
      tag = t;
      is_tag = is_tag;
      fits = fits;
      more = more_bytes;
      follows = follows;
      no_fault = λ p f. fault_comes_later bytes left more_bytes place p b t w placed fits follows f;
    }
