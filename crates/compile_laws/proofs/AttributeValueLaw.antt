-- The value law for attributes: a definition admits the texts that the pattern of its values allows.
use Rattle.std.proofs.Common.{◌≡◌, ◌≢◌, ◌↔◌, ◌⊎◌, ℕ, zero, suc, List, [], ◌∷◌, ◌++◌, Option, Some, None, inl, inr, ⊎_elim, length, map, refl, sym, ap, subst, ◌∙◌}
use Rattle.std.proofs.lemmas.List.Elements.{All-cons, All-contains, All-head, All-nil, All-tail}
use Rattle.std.specs.Option.{IfSome}
use Rattle.std.specs.Prelude.{All}
use Rattle.std.specs.Str.{chars}
use Rattle.compile_defines.proofs.Standing.{each_stands}
use Rattle.compile_defines.specs.Data.{item_pattern, list_pattern, listed_pattern, piece_pattern, pieces_pattern, value_pattern, values_pattern}
use Rattle.compile_defines.specs.Repeating.{repeated}
use Rattle.odd_attributes.specs.declared.att_def.AttDef.{AttDef}
use Rattle.odd_attributes.specs.declared.att_def.Datatype.{Datatype}
use Rattle.odd_content.specs.Formed.{once}
use Rattle.odd_content.specs.FormedData.{IsFormedList}
use Rattle.odd_library.specs.declared.library.Library.{Library}
use Rattle.odd_meaning.specs.Contents.{IsWithin}
use Rattle.odd_text.proofs.InList.{contained, stands_map}
use Rattle.odd_text.specs.Standing.{StandsIn}
use Rattle.odd_tree.specs.Splits.{Counted, Pieces}
use Rattle.rng_grammar.proofs.OnePattern.{choice_shown, list_shown, ref_shown, text_shown}
use Rattle.rng_grammar.proofs.SortLaws.{DefinesOnce}
use Rattle.rng_grammar.proofs.Values.{same_shown, typed_shown}
use Rattle.rng_grammar.specs.Acceptance.{IsValueOf}
use Rattle.rng_grammar.specs.Patterns as patterns
use Rattle.rng_grammar.specs.Patterns.{IsAllowed, IsMatchedBy, TakesWord}
use Rattle.rng_grammar.specs.Sorts as sorts
use Rattle.rng_grammar.specs.Sorts.{IsOfValue, IsOfWord, IsOfWords}
use Rattle.rng_grammar.specs.declared.grammar.Expr.{Expr, Expr-F, out-Expr}
use Rattle.rng_grammar.specs.declared.grammar.Expr.TheOpen as shape
use Rattle.rng_grammar.specs.declared.grammar.Expr.TheVariants as expr
use Rattle.rng_grammar.specs.declared.grammar.Grammar.{Grammar}
use Rattle.rng_types.specs.Bounds.{IsFormedBounds}
use Rattle.rng_types.specs.Words.{words_of}
use Rattle.rng_types.specs.declared.bounds.Bounds.{Bounds}
use Rattle.rng_types.specs.declared.val_list.ListKind.{ListKind}
use Rattle.rng_types.specs.declared.val_list.ListKind.TheVariants as listing
use Rattle.rng_types.specs.declared.val_list.ValList.{ValList}
use Rattle.compile_laws.proofs.Closed.{IsClosed, repeated_good}
use Rattle.compile_laws.proofs.Leaves.{word_leaves}
use Rattle.compile_laws.proofs.MatchLaws.{repeated_law}
use Rattle.compile_laws.proofs.ValueLaw.{allowed_told, collapsed_values, values_law}
use Rattle.compile_laws.proofs.WordLaw.{not_allowed_shown, word_law}
use Rattle.odd_meaning.specs.Values as values
use Rattle.odd_meaning.specs.Values.{IsAdmittedValue, IsItemBy, IsOfDatatype, IsOfItem, IsPiece, bounds_of}

-- a word is no `text`
shown_apart : {R : Type 0} (p : Expr) (q : Expr-F Expr) → out-Expr p ≡ q → (q ≡ shape.Text → ⊥) → p ≡ expr.Text → R
shown_apart p q e apart is = absurd (apart (sym e ∙ ap out-Expr is ∙ text_shown))

word_no_text : (g : Grammar) (p : Expr) → IsOfWord g p → p ≡ expr.Text → ⊥
word_no_text g p sorts.not_allowed is = shown_apart p shape.NotAllowed not_allowed_shown (λ e. cc) is
word_no_text g p (sorts.typed {k = k} {facets = facets}) is = shown_apart p (shape.Typed k facets) (typed_shown k facets) (λ e. cc) is
word_no_text g p (sorts.same {text = text}) is = shown_apart p (shape.Same text) (same_shown text) (λ e. cc) is
word_no_text g p (sorts.part {name = name} inner d w) is = shown_apart p (shape.Ref name) (ref_shown name) (λ e. cc) is
word_no_text g p (sorts.choice parts e each) is = shown_apart p (shape.Choice parts) (ap out-Expr e ∙ choice_shown parts) (λ f. cc) is

-- values are of one word
pub values_words : (g : Grammar) (vs : List (List ℕ)) → IsOfWord g (values_pattern vs)
values_words g [] = sorts.not_allowed
values_words g (v ∷ []) = sorts.same
values_words g (v ∷ w ∷ vs) =
    sorts.choice (map expr.Same (v ∷ w ∷ vs)) refl (λ part s. let x = stands_map expr.Same (v ∷ w ∷ vs) part s in subst (IsOfWord g) (sym x.2) sorts.same)

-- so is a list of values
pub list_word : (g : Grammar) (list : ValList) → IsOfWord g (list_pattern list)
list_word g list = by list.kind
  where
    by : (k : ListKind) → IsOfWord g (listed_pattern k list.values)
    by listing.Closed = values_words g list.values
    by listing.Semi = sorts.typed
    by listing.Open = sorts.typed

-- what is made of patterns of words is one
words_closed : (g : Grammar) → IsClosed (IsOfWords g)
words_closed g =
    let each : (ps : List Expr) → All (IsOfWords g) ps → (p : Expr) → StandsIn ps p → IsOfWords g p = λ ps all p s. All-contains (IsOfWords g) ps p all (contained ps p s) in
    record {
      empty = sorts.empty;
      not_allowed = sorts.word sorts.not_allowed;
      group = λ p q ps all. sorts.group (p ∷ q ∷ ps) refl (each (p ∷ q ∷ ps) all);
      choice = λ p q ps all. sorts.choice (p ∷ q ∷ ps) refl (each (p ∷ q ∷ ps) all);
      optional = λ p h. sorts.optional p refl h;
      zero_or_more = λ p h. sorts.zero_or_more p refl h;
      one_or_more = λ p h. sorts.one_or_more p refl h;
    }

-- bounds are once, or they are not and make a list
pub data IsOnceOrListed (piece : Expr) (b : Bounds) : Type 0 where
  is_once : b ≡ once → pieces_pattern piece b ≡ piece → IsOnceOrListed piece b
  is_listed : b ≢ once → pieces_pattern piece b ≡ expr.List (repeated piece b) → IsOnceOrListed piece b

pub by_bounds : (piece : Expr) (min : ℕ) (max : Option ℕ) → IsOnceOrListed piece (record { min = min; max = max })
by_bounds piece zero max = is_listed (λ e. let m : zero ≡ suc zero = ap (λ (b : Bounds). b.min) e in cc) refl
by_bounds piece (suc zero) None = is_listed (λ e. let m : None ≡ Some (suc zero) = ap (λ (b : Bounds). b.max) e in cc) refl
by_bounds piece (suc zero) (Some zero) = is_listed (λ e. let m : Some zero ≡ Some (suc zero) = ap (λ (b : Bounds). b.max) e in cc) refl
by_bounds piece (suc zero) (Some (suc zero)) = is_once refl refl
by_bounds piece (suc zero) (Some (suc (suc n))) = is_listed (λ e. let m : Some (suc (suc n)) ≡ Some (suc zero) = ap (λ (b : Bounds). b.max) e in cc) refl
by_bounds piece (suc (suc n)) max = is_listed (λ e. let m : suc (suc n) ≡ suc zero = ap (λ (b : Bounds). b.min) e in cc) refl

-- so many pieces of one word each are so many words
module _ (P : List ℕ → Type 0) where
  abbrev One : List (List ℕ) → Type 0
  One ws = (w : List ℕ) × (ws ≡ w ∷ []) × P w

  abbrev CountedWords : ℕ → List (List ℕ) → Type 0
  CountedWords n ws = (length ws ≡ n) × All P ws

  from_pieces : (n : ℕ) (ws : List (List ℕ)) → Pieces One n ws → CountedWords n ws
  from_pieces zero ws e = subst (CountedWords zero) (sym e) (refl, All-nil P)
  from_pieces (suc n) ws h =
      let rest = from_pieces n h.right h.second in
      let split : ws ≡ h.first.0 ∷ h.right = h.split ∙ ap (λ l. l ++ h.right) h.first.1 in
      subst (CountedWords (suc n)) (sym split) (ap suc rest.0, All-cons P h.first.0 h.right h.first.2 rest.1)

  to_pieces : (n : ℕ) (ws : List (List ℕ)) → CountedWords n ws → Pieces One n ws
  to_pieces zero [] h = refl
  to_pieces zero (w ∷ ws) h = let e = h.0 in cc
  to_pieces (suc n) [] h = let e = h.0 in cc
  to_pieces (suc n) (w ∷ ws) h =
      let e = h.0 in
      let less : length ws ≡ n = cc in
      record { left = w ∷ []; right = ws; split = refl; first = (w, refl, All-head P w ws h.1); second = to_pieces n ws (less, All-tail P w ws h.1) }

  counted_words : (b : Bounds) (ws : List (List ℕ)) → Counted (IsWithin b) One ws ↔ (IsWithin b (length ws) × All P ws)
  counted_words b ws = (
    λ h. let c = from_pieces h.count ws h.pieces in (subst (IsWithin b) (sym c.0) h.allowed, c.1),
    λ h. record { count = length ws; allowed = h.0; pieces = to_pieces (length ws) ws (refl, h.1) },
  )

-- what tests a piece: nothing, where there is no datatype, or a pattern of one word that allows what the definition admits
data IsTestedBy (g : Grammar) (o : Option Datatype) (P : List ℕ → Type 0) (piece : Expr) : Type 0 where
  free : o ≡ None → piece ≡ expr.Text → ((cs : List ℕ) → P cs) → IsTestedBy g o P piece
  tested : IsOfWord g piece → ((cs : List ℕ) → P cs ↔ IsAllowed g piece cs) → IsTestedBy g o P piece

module _ (library : Library) (g : Grammar) (defines_once : DefinesOnce g)
    (of_datatype : Option Datatype)
    (kept : (d : Datatype) → of_datatype ≡ Some d → (cs : List ℕ) → IsItemBy (IsOfDatatype library) d.item cs ↔ IsAllowed g (item_pattern d.item) cs)
    (words : (d : Datatype) → of_datatype ≡ Some d → IsOfWord g (item_pattern d.item)) where
  -- what tests a piece where there is no closed list
  by_datatype : (o : Option Datatype) → of_datatype ≡ o → IsTestedBy g o (IsOfItem library o) (piece_pattern o None)
  by_datatype None e = free refl refl (λ cs. tt)
  by_datatype (Some d) e = tested (words d e) (kept d e)

  -- a list that is not closed changes nothing
  not_closed : (k : ListKind) (vs : List (List ℕ)) (o : Option Datatype) → k ≢ listing.Closed → IsTestedBy g o (IsOfItem library o) (piece_pattern o None)
      → piece_pattern o (Some (record { kind = k; values = vs })) ≡ piece_pattern o None
      → IsTestedBy g o (IsPiece library o (Some (record { kind = k; values = vs }))) (piece_pattern o (Some (record { kind = k; values = vs })))
  not_closed k vs o other (free none is any) same = free none (same ∙ is) (λ cs. inr (other, any cs))
  not_closed k vs o other (tested w law) same = tested (subst (IsOfWord g) (sym same) w) (λ cs. (
    λ h. subst (λ p. IsAllowed g p cs) (sym same) ((law cs).0 (⊎_elim (λ c. absurd (other c.0)) (λ x. x.1) h)),
    λ m. inr (other, (law cs).1 (subst (λ p. IsAllowed g p cs) same m)),
  ))

  -- so a piece is tested
  piece_tested : (v : Option ValList) → IfSome v IsFormedList → IsTestedBy g of_datatype (IsPiece library of_datatype v) (piece_pattern of_datatype v)
  piece_tested None f = by_datatype of_datatype refl
  piece_tested (Some list) f = by list.kind refl
    where
      by : (k : ListKind) → list.kind ≡ k → IsTestedBy g of_datatype (IsPiece library of_datatype (Some (record { kind = k; values = list.values })))
          (piece_pattern of_datatype (Some (record { kind = k; values = list.values })))
      by listing.Closed e = tested (values_words g list.values) (λ cs.
          let law = values_law g list.values cs (collapsed_values list f) in
          (λ h. ⊎_elim (λ c. law.0 c.1) (λ x. absurd (x.0 refl)) h, λ m. inl (refl, law.1 m)))
      by listing.Semi e = not_closed listing.Semi list.values of_datatype (λ same. cc) (by_datatype of_datatype refl) refl
      by listing.Open e = not_closed listing.Open list.values of_datatype (λ same. cc) (by_datatype of_datatype refl) refl

  -- a whole value
  whole_law : (P : List ℕ → Type 0) (piece : Expr) → IsTestedBy g of_datatype P piece → (text : List ℕ) → P (chars text) ↔ IsValueOf g piece text
  whole_law P piece (free none is any) text = (λ h. inl is, λ m. any (chars text))
  whole_law P piece (tested w law) text = (λ h. inr ((law (chars text)).0 h), λ m. ⊎_elim (λ is. absurd (word_no_text g piece w is)) (λ a. (law (chars text)).1 a) m)

  -- the words of one
  words_law : (P : List ℕ → Type 0) (piece : Expr) (b : Bounds) → IsFormedBounds b → IsOfWord g piece → ((cs : List ℕ) → P cs ↔ IsAllowed g piece cs) → (text : List ℕ)
      → (IsWithin b (length (words_of (chars text))) × All P (words_of (chars text))) ↔ IsValueOf g (expr.List (repeated piece b)) text
  words_law P piece b f w law text =
      let ws = words_of (chars text) in
      let each = repeated_law (λ x. Unit {0}) g TakesWord word_leaves (One P) piece b f (λ us q.
      let inner = word_law g defines_once piece w us in (
        λ (h : One P us). inner.1 (h.0, h.1, (law h.0).0 h.2),
        λ m. let o = inner.0 m in (o.0, o.1, (law o.0).1 o.2),
      )) ws (each_stands (λ x. Unit {0}) ws (λ x s. tt)) in
      let counted = counted_words P b ws in (
        λ h. inr (patterns.leaf (patterns.words refl (each.0 (counted.1 h)))),
        λ m. ⊎_elim (λ is. shown_apart (expr.List (repeated piece b)) (shape.List (repeated piece b)) (list_shown (repeated piece b)) (λ e. cc) is)
            (λ a. ⊎_elim
            (λ t.
            let one = t.1 in
            let same : t.0 ≡ chars text = cc in
            counted.0 (each.1 (subst (λ cs. IsMatchedBy g TakesWord (repeated piece b) (words_of cs)) same t.2)))
            (λ x. absurd x) (allowed_told g (expr.List (repeated piece b)) (shape.List (repeated piece b)) (chars text) (list_shown (repeated piece b)) a)) m,
      )

  -- the pattern of a definition is that of the datatype here
  pattern_is : (def : AttDef) → def.datatype ≡ of_datatype → value_pattern def ≡ pieces_pattern (piece_pattern of_datatype def.vals) (bounds_of of_datatype)
  pattern_is def same = ap (λ o. pieces_pattern (piece_pattern o def.vals) (bounds_of o)) same

  -- it is of a value, or `text`
  pub values_sort : (def : AttDef) → def.datatype ≡ of_datatype → IfSome def.vals IsFormedList → (value_pattern def ≡ expr.Text) ⊎ IsOfValue g (value_pattern def)
  values_sort def same f = by (by_bounds piece b.min b.max) (piece_tested def.vals f)
    where
      piece : Expr
      piece = piece_pattern of_datatype def.vals

      b : Bounds
      b = bounds_of of_datatype

      by : IsOnceOrListed piece b → IsTestedBy g of_datatype (IsPiece library of_datatype def.vals) piece → (value_pattern def ≡ expr.Text) ⊎ IsOfValue g (value_pattern def)
      by (is_once e p) (free none is any) = inl (pattern_is def same ∙ p ∙ is)
      by (is_once e p) (tested w law) = inr (subst (IsOfValue g) (sym (pattern_is def same ∙ p)) (sorts.word w))
      by (is_listed other p) (free none is any) = absurd (other (ap bounds_of none))
      by (is_listed other p) (tested w law) =
          inr (sorts.words (repeated piece b) (pattern_is def same ∙ p) (repeated_good (IsOfWords g) (words_closed g) piece b (sorts.word w)))

  -- so the definition admits what its pattern allows
  pub admitted_law : (def : AttDef) → def.datatype ≡ of_datatype → IfSome def.vals IsFormedList → IsFormedBounds (bounds_of of_datatype) → (text : List ℕ)
      → IsAdmittedValue library def text ↔ IsValueOf g (value_pattern def) text
  admitted_law def same f fb text = by (by_bounds piece b.min b.max)
    where
      piece : Expr
      piece = piece_pattern of_datatype def.vals

      b : Bounds
      b = bounds_of of_datatype

      P : List ℕ → Type 0
      P = IsPiece library of_datatype def.vals

      piece_is : (cs : List ℕ) → IsPiece library def.datatype def.vals cs ≡ P cs
      piece_is cs = ap (λ o. IsPiece library o def.vals cs) same

      words_tested : IsTestedBy g of_datatype P piece → b ≢ once → (IsWithin b (length (words_of (chars text))) × All P (words_of (chars text))) ↔ IsValueOf g (expr.List (repeated piece b)) text
      words_tested (free none is any) other = absurd (other (ap bounds_of none))
      words_tested (tested w law) other = words_law P piece b fb w law text

      by : IsOnceOrListed piece b → IsAdmittedValue library def text ↔ IsValueOf g (value_pattern def) text
      by (is_once e p) =
          let law = whole_law P piece (piece_tested def.vals f) text in
          let is : value_pattern def ≡ piece = pattern_is def same ∙ p in (
            λ h. subst (λ x. IsValueOf g x text) (sym is) (law.0 (whole_piece h)),
            λ m. values.whole (ap bounds_of same ∙ e) (subst (λ X. X) (sym (piece_is (chars text))) (law.1 (subst (λ x. IsValueOf g x text) is m))),
          )
        where
          whole_piece : IsAdmittedValue library def text → P (chars text)
          whole_piece (values.whole o h) = subst (λ X. X) (piece_is (chars text)) h
          whole_piece (values.words o within all) = absurd (o (ap bounds_of same ∙ e))
      by (is_listed other p) =
          let law = words_tested (piece_tested def.vals f) other in
          let is : value_pattern def ≡ expr.List (repeated piece b) = pattern_is def same ∙ p in (
            λ h. subst (λ x. IsValueOf g x text) (sym is) (law.0 (word_pieces h)),
            λ m.
                let both = law.1 (subst (λ x. IsValueOf g x text) is m) in
                values.words (λ e. other (sym (ap bounds_of same) ∙ e)) (subst (λ x. IsWithin x (length (words_of (chars text)))) (sym (ap bounds_of same)) both.0)
                (subst (λ o. All (IsPiece library o def.vals) (words_of (chars text))) (sym same) both.1),
          )
        where
          word_pieces : IsAdmittedValue library def text → IsWithin b (length (words_of (chars text))) × All P (words_of (chars text))
          word_pieces (values.whole o h) = absurd (other (sym (ap bounds_of same) ∙ o))
          word_pieces (values.words o within all) = (
            subst (λ x. IsWithin x (length (words_of (chars text)))) (ap bounds_of same) within,
            subst (λ o. All (IsPiece library o def.vals) (words_of (chars text))) same all,
          )
