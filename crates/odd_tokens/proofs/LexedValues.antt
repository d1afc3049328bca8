-- The lexer takes the pieces of a value, and reads them from left to right.
use Rattle.std.proofs.Common.{◌≡◌, ℕ, Bool, true, false, ◌==◌, ◌&&◌, ◌||◌, if◌then◌else◌, List, [], ◌∷◌, ◌++◌, Some, None, All, IsTrue, refl, sym, ap, ◌∙◌, subst, arith, append_assoc}
use Rattle.std.proofs.lemmas.Bool.{cond-true, cond-false, ne_eqb, eqb-true, and_parts, and_left, and_right, or_parts, or_from}
use Rattle.std.proofs.lemmas.List.{append-nil}
use Rattle.std.proofs.lemmas.List.Elements.{All-head, All-tail}
use Rattle.std.proofs.lemmas.Str.{encodes-append}
use Rattle.std.specs.Char.{encode_utf8}
use Rattle.std.specs.Str.{encode_utf8_all}
use Rattle.odd_tokens.specs.Characters.{is_char, is_space}
use Rattle.odd_tokens.specs.Lexing.{Lexed, next, go}
use Rattle.odd_tokens.specs.Values.{value_read}
use Rattle.odd_tokens.specs.Tokens.{Reference, Piece, itself, reference, IsPieceIn, character_of, reference_written, value_written}
use Rattle.odd_tokens.specs.declared.lexer.Place.TheVariants as place
use Rattle.odd_tokens.specs.declared.lexer.ReferencePart.TheVariants as ref
use Rattle.odd_tokens.specs.declared.lexer.State.TheVariants as state
use Rattle.odd_tokens.specs.declared.token.Token.{Token}
use Rattle.odd_tokens.proofs.AttributesLexed.{at_quote}
use Rattle.odd_tokens.proofs.LexedReferences.{reference_read}
use Rattle.odd_tokens.proofs.LexedSteps.{Yields, stepped}

-- what a character of a value is read as, after a CR or not
abbrev pub item_read : Bool → ℕ → List ℕ
item_read after_return c = if c == 0xA && after_return then [] else (if is_space c then 0x20 else c) ∷ []

abbrev pub value_read_after : Bool → List Piece → List ℕ
value_read_after after_return [] = []
value_read_after after_return (itself c ∷ ps) = item_read after_return c ++ value_read_after (c == 0xD) ps
value_read_after after_return (reference r ∷ ps) = character_of r ∷ value_read_after false ps

-- from left to right, a CR is read at once and an LF after it is dropped

abbrev ReturnIsRead : List Piece → Type 0
ReturnIsRead ps = 0x20 ∷ value_read_after true ps ≡ value_read (itself 0xD ∷ ps)

one_first : (c : ℕ) {xs ys : List ℕ} → xs ≡ ys → c ∷ xs ≡ c ∷ ys
one_first c e = ap (λ cs. c ∷ cs) e

item_is_read : (c : ℕ) (ps : List Piece) (x : Bool) → (c == 0xD) ≡ x → value_read_after false ps ≡ value_read ps → ReturnIsRead ps
    → value_read_after false (itself c ∷ ps) ≡ value_read (itself c ∷ ps)
item_is_read c ps true e h r = subst (λ d. value_read_after false (itself d ∷ ps) ≡ value_read (itself d ∷ ps)) (sym (eqb-true c 0xD e)) r
item_is_read c ps false e h r = let n : (c == 0xA && false) ≡ false = and_right (c == 0xA) false refl in rw (e, n) (one_first _ h)

item_after_return : (c : ℕ) (ps : List Piece) (x : Bool) → (c == 0xA) ≡ x → value_read_after false ps ≡ value_read ps
    → value_read_after false (itself c ∷ ps) ≡ value_read (itself c ∷ ps) → ReturnIsRead (itself c ∷ ps)
item_after_return c ps true e h r = subst (λ d. ReturnIsRead (itself d ∷ ps)) (sym (eqb-true c 0xA e)) (ap (λ cs. 0x20 ∷ cs) h)
item_after_return c ps false e h r = rw e (ap (λ cs. 0x20 ∷ cs) (rw e at r))

mutual
  pub value_is_read : (ps : List Piece) → value_read_after false ps ≡ value_read ps
  value_is_read [] = refl
  value_is_read (reference r ∷ ps) = ap (λ cs. character_of r ∷ cs) (value_is_read ps)
  value_is_read (itself c ∷ ps) = item_is_read c ps _ refl (value_is_read ps) (return_is_read ps)

  return_is_read : (ps : List Piece) → ReturnIsRead ps
  return_is_read [] = refl
  return_is_read (reference r ∷ ps) = ap (λ cs. 0x20 ∷ character_of r ∷ cs) (value_is_read ps)
  return_is_read (itself c ∷ ps) = item_after_return c ps _ refl (value_is_read ps) (item_is_read c ps _ refl (value_is_read ps) (return_is_read ps))

-- a declaration's value has no reference
abbrev pub IsAllowed : Bool → Piece → Type 0
IsAllowed true (reference r) = ⊥
IsAllowed declares p = Unit {0}

allowed_none : (declares : Bool) (r : Reference) → IsAllowed declares (reference r) → declares ≡ false
allowed_none true r h = absurd h
allowed_none false r h = refl

module _ (l : Lexed) (quote : ℕ) (quoted : IsTrue (quote == 0x22 || quote == 0x27)) (t : Token) where
  abbrev pub in_value : Bool → List ℕ → List ℕ → ℕ → Lexed
  in_value after_return v text number = record l { state = state.Value quote after_return; value = v; text = text; number = number }

  -- the last test of three
  item_kept : (b : Bool) (v text : List ℕ) (number c : ℕ) (x y : Bool) → (c == 0xA && b) ≡ x → is_space c ≡ y
      → if c == 0xA && b then go (state.Value quote false) (in_value b v text number)
      else (if is_space c then go (state.Value quote (c == 0xD)) (in_value b (v ++ 0x20 ∷ []) text number)
      else go (state.Value quote false) (in_value b (v ++ encode_utf8 c) text number))
      ≡ Some (in_value (c == 0xD) (v ++ encode_utf8_all (item_read b c)) text number, None)
  unfolding encode_utf8
  item_kept b v text number c true y e f =
      let d : (c == 0xD) ≡ false = ne_eqb c 0xD (λ q. omega (arith, eqb-true c 0xA (and_parts (c == 0xA) b e).0)) in
      let r : v ++ encode_utf8_all (item_read b c) ≡ v = ap (λ cs. v ++ encode_utf8_all cs) (cond-true (c == 0xA && b) [] _ e) ∙ append-nil v in
      cond-true _ _ _ e ∙ (λ i. Some (in_value (sym d i) (sym r i) text number, None))
  item_kept b v text number c false true e f =
      let r : v ++ encode_utf8_all (item_read b c) ≡ v ++ 0x20 ∷ [] =
      ap (λ cs. v ++ encode_utf8_all cs) (cond-false (c == 0xA && b) [] _ e ∙ ap (λ d. d ∷ []) (cond-true (is_space c) 0x20 c f)) in
      cond-false _ _ _ e ∙ cond-true _ _ _ f ∙ (λ i. Some (in_value (c == 0xD) (sym r i) text number, None))
  item_kept b v text number c false false e f =
      let d : (c == 0xD) ≡ false = (or_parts (c == 0x20 || c == 0x9) (c == 0xD) (or_parts (c == 0x20 || c == 0x9 || c == 0xD) (c == 0xA) f).0).1 in
      let r : v ++ encode_utf8_all (item_read b c) ≡ v ++ encode_utf8 c =
      ap (λ cs. v ++ encode_utf8_all cs) (cond-false (c == 0xA && b) [] _ e ∙ ap (λ d. d ∷ []) (cond-false (is_space c) 0x20 c f)) ∙ ap (λ bs. v ++ bs) (append-nil (encode_utf8 c)) in
      cond-false _ _ _ e ∙ cond-false _ _ _ f ∙ (λ i. Some (in_value (sym d i) (sym r i) text number, None))

  item_next : (b : Bool) (v text : List ℕ) (number c at : ℕ) → IsPieceIn quote (itself c)
      → next (in_value b v text number) at c ≡ Some (in_value (c == 0xD) (v ++ encode_utf8_all (item_read b c)) text number, None)
  item_next b v text number c at h =
      let amp : (c == 0x26) ≡ false = ne_eqb c 0x26 h.2 in
      let none : (c == 0x3C || (c == 0x26 && l.declares)) ≡ false = or_from (c == 0x3C) (c == 0x26 && l.declares) (ne_eqb c 0x3C h.1) (and_left (c == 0x26) l.declares amp) in
      cond-true _ _ _ h.0 ∙ cond-false _ _ _ (ne_eqb c quote h.3) ∙ cond-false _ _ _ none ∙ cond-false _ _ _ amp ∙ item_kept b v text number c _ _ refl refl

  -- a reference begins
  amp_next : (b : Bool) (v text : List ℕ) (number at : ℕ) → l.declares ≡ false
      → next (in_value b v text number) at 0x26 ≡ Some (record l { state = state.Reference (place.Value quote) ref.Begins; value = v; text = text; number = number }, None)
  unfolding is_char
  amp_next b v text number at h =
      let apart : (0x26 == quote) ≡ false = at_quote (λ q. (0x26 == q) ≡ false) refl refl quote quoted in
      cond-false _ _ _ apart ∙ cond-false _ _ _ h ∙ refl

  -- the pieces of a value, before its quote
  pub pieces_read : (ps : List Piece) (b : Bool) (v text : List ℕ) (number : ℕ) (more : List ℕ) → All (IsPieceIn quote) ps → All (IsAllowed l.declares) ps
      → ((after_return : Bool) (text : List ℕ) (number : ℕ) → Yields (in_value after_return (v ++ encode_utf8_all (value_read_after b ps)) text number) more t)
      → Yields (in_value b v text number) (value_written ps ++ more) t
  pieces_read [] b v text number more h a y = subst (λ w. Yields (in_value b w text number) more t) (append-nil v) (y b text number)
  pieces_read (itself c ∷ ps) b v text number more h a y =
      let e : v ++ encode_utf8_all (item_read b c ++ value_read_after (c == 0xD) ps) ≡ (v ++ encode_utf8_all (item_read b c)) ++ encode_utf8_all (value_read_after (c == 0xD) ps) =
      ap (λ bs. v ++ bs) (encodes-append (item_read b c) (value_read_after (c == 0xD) ps)) ∙ sym (append_assoc v _ _) in
      stepped (λ at. item_next b v text number c at (All-head (IsPieceIn quote) (itself c) ps h))
      (pieces_read ps (c == 0xD) (v ++ encode_utf8_all (item_read b c)) text number more (All-tail (IsPieceIn quote) (itself c) ps h) (All-tail (IsAllowed l.declares) (itself c) ps a)
      (λ after_return text number. subst (λ w. Yields (in_value after_return w text number) more t) e (y after_return text number)))
  pieces_read (reference r ∷ ps) b v text number more h a y =
      let e : v ++ (encode_utf8 (character_of r) ++ encode_utf8_all (value_read_after false ps)) ≡ (v ++ encode_utf8 (character_of r)) ++ encode_utf8_all (value_read_after false ps) =
      sym (append_assoc v _ _) in
      subst (λ cs. Yields (in_value b v text number) cs t) (sym (append_assoc (reference_written r) (value_written ps) more))
      (reference_read (record l { value = v; text = text; number = number }) (place.Value quote) t (in_value b v text number)
      (λ at. amp_next b v text number at (allowed_none l.declares r (All-head (IsAllowed l.declares) (reference r) ps a)))
      r (value_written ps ++ more) (All-head (IsPieceIn quote) (reference r) ps h)
      (λ s text number. pieces_read ps false (v ++ encode_utf8 (character_of r)) text number more (All-tail (IsPieceIn quote) (reference r) ps h) (All-tail (IsAllowed l.declares) (reference r) ps a)
      (λ after_return text number. subst (λ w. Yields (in_value after_return w text number) more t) e (y after_return text number))))
