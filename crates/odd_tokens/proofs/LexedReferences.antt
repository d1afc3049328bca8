-- The lexer takes written names and references.
use Rattle.std.proofs.Common.{◌≡◌, ◌≢◌, ℕ, ◌+◌, ◌*◌, ◌≤◌, Bool, true, ◌==◌, List, [], ◌∷◌, ◌++◌, Some, None, refl, sym, ap, ◌∙◌, subst, arith, codes, append_assoc, if◌then◌else◌, false}
use Rattle.std.proofs.lemmas.Bool.{cond-true, cond-false, and_parts, le-leb, or_parts, ne_eqb, both_ways}
use Rattle.std.proofs.lemmas.List.{append-nil}
use Rattle.std.specs.Char.{encode_utf8}
use Rattle.std.specs.List.{list_all}
use Rattle.std.specs.Str.{encode_utf8_all}
use Rattle.odd_tokens.proofs.AttributesLexed.{is_name_part, colon_ends}
use Rattle.odd_tokens.proofs.Characters.{char_is_small, number_of, number_grows, IsBase, decimal_base, hexadecimal_base, decimal_no_x, start_is_legal, name_char_is_legal, Stops, encoded_more}
use Rattle.odd_tokens.proofs.LexedSteps.{Yields, Gives, stepped, reads, Reads}
use Rattle.odd_tokens.specs.Characters.{last_character, is_char, is_name_start, is_name_char, is_ncname}
use Rattle.odd_tokens.specs.Lexing.{Lexed, next, referred, digit, base_of, end_digits, entity_named, reference, after_name, name_begins, name_goes_on, named_in, no_name}
use Rattle.odd_tokens.specs.Tokens.{Reference, lt, gt, amp, apos, quot, decimal, hexadecimal, IsReference, character_of, reference_written, QName, IsQName, name_written}
use Rattle.odd_tokens.specs.declared.lexer.NamePart.{NamePart}
use Rattle.odd_tokens.specs.declared.lexer.NamePart.TheVariants as part
use Rattle.odd_tokens.specs.declared.lexer.Named.{Named}
use Rattle.odd_tokens.specs.declared.lexer.Place.{Place}
use Rattle.odd_tokens.specs.declared.lexer.ReferencePart.{ReferencePart}
use Rattle.odd_tokens.specs.declared.lexer.ReferencePart.TheVariants as ref
use Rattle.odd_tokens.specs.declared.lexer.State.{State}
use Rattle.odd_tokens.specs.declared.lexer.State.TheVariants as state
use Rattle.odd_tokens.specs.declared.token.Token.{Token}

semicolon_legal : is_char 0x3B ≡ true
unfolding is_char
semicolon_legal = refl

module _ (l : Lexed) (p : Place) (t : Token) where
  -- what is left after the reference, whose character is this
  abbrev pub After : ℕ → List ℕ → Type 0
  After c more = (s : State) (text : List ℕ) (number : ℕ) → Gives (referred p c (record l { state = s; text = text; number = number })) more t

  -- in the digits, with the number of those before
  abbrev in_digits : ReferencePart → ℕ → Lexed
  in_digits part n = record l { state = state.Reference p part; number = n }

  module _ (part : ReferencePart) {test : ℕ → Bool} {value : ℕ → ℕ} (b : IsBase (base_of part) test value)
      (in_part : (n c : ℕ) → reference p part (in_digits part n) c ≡ (if c == 0x3B then end_digits p (in_digits part n) else digit p part (in_digits part n) c)) where
    -- a digit adds to the number, which is no greater than that of a character
    digit_read : (s : State) (n d : ℕ) → n ≤ last_character → test d ≡ true
        → digit p part (record l { state = s; number = n }) d ≡ Some (in_digits part (n * base_of part + value d), None)
    digit_read s n d small h =
        cond-true _ _ _ (b.below d h)
        ∙ ap (λ x. Some (in_digits part x, None)) (cond-true _ _ _ (le-leb n last_character small) ∙ ap (λ x. n * base_of part + x) (b.same d h))

    digits_read : (n : ℕ) (ds more : List ℕ) → list_all test ds ≡ true → is_char (number_of (base_of part) n value ds) ≡ true → After (number_of (base_of part) n value ds) more
        → Yields (in_digits part n) (ds ++ 0x3B ∷ more) t
    digits_read n [] more h legal a =
        reads (λ c. reference p part (in_digits part n) c) (λ at c h. cond-true _ _ _ h)
        (semicolon_legal, subst (λ o. Gives o more t) (sym (in_part n 0x3B ∙ cond-true _ _ _ legal)) (a (state.Reference p part) l.text n))
    digits_read n (d ∷ ds) more h legal a =
        let both = and_parts (test d) (list_all test ds) h in
        let small : n ≤ last_character = omega (arith, number_grows (base_of part) n value (d ∷ ds) b.some, char_is_small (number_of (base_of part) n value (d ∷ ds)) legal) in
        stepped (λ at. cond-true _ _ _ (b.legal d both.0) ∙ in_part n d ∙ cond-false _ _ _ (b.no_mark d both.0) ∙ digit_read (state.Reference p part) n d small both.0)
        (digits_read (n * base_of part + value d) ds more both.1 legal a)

    -- the digits after `&#` and `&#x`
    digits_read_from : (s : State) → ((d at : ℕ) → test d ≡ true → next (record l { state = s }) at d ≡ digit p part (record l { state = s; number = 0 }) d) → (ds more : List ℕ)
        → ds ≢ [] → list_all test ds ≡ true → is_char (number_of (base_of part) 0 value ds) ≡ true → After (number_of (base_of part) 0 value ds) more
        → Yields (record l { state = s }) (ds ++ 0x3B ∷ more) t
    digits_read_from s first [] more some h legal a = absurd (some refl)
    digits_read_from s first (d ∷ ds) more some h legal a =
        let both = and_parts (test d) (list_all test ds) h in
        stepped (λ at. first d at both.0 ∙ digit_read s 0 d (omega arith) both.0) (digits_read (0 * base_of part + value d) ds more both.1 legal a)

  -- the letters of an entity's name

  abbrev in_letters : List ℕ → Lexed
  in_letters text = record l { state = state.Reference p ref.Letters; text = text }

  letters_end : (name : List ℕ) (c : ℕ) (more : List ℕ) → entity_named name ≡ Some c → After c more → Yields (in_letters name) (0x3B ∷ more) t
  letters_end name c more e a =
      reads (λ d. reference p ref.Letters (in_letters name) d) (λ at d h. cond-true _ _ _ h)
      (semicolon_legal, rw e (a (state.Reference p ref.Letters) name l.number))

  decimal_read : (ds more : List ℕ) → IsReference (decimal ds) → After (character_of (decimal ds)) more → Yields (record l { state = state.Reference p ref.Hash }) (ds ++ 0x3B ∷ more) t
  decimal_read ds more h a =
      digits_read_from ref.Decimal decimal_base (λ n c. refl) (state.Reference p ref.Hash)
      (λ d at k. cond-true _ _ _ (decimal_base.legal d k) ∙ cond-false _ _ _ (decimal_no_x d k)) ds more h.0 h.1 h.2 a

  hexadecimal_read : (ds more : List ℕ) → IsReference (hexadecimal ds) → After (character_of (hexadecimal ds)) more
      → Yields (record l { state = state.Reference p ref.HexBegins }) (ds ++ 0x3B ∷ more) t
  hexadecimal_read ds more h a =
      digits_read_from ref.Hexadecimal hexadecimal_base (λ n c. refl) (state.Reference p ref.HexBegins) (λ d at k. cond-true _ _ _ (hexadecimal_base.legal d k)) ds more h.0 h.1 h.2 a

  -- what follows the first character of a reference
  abbrev Continues : Reference → List ℕ → Type 0
  Continues r more = (cs : List ℕ) × (0x26 ∷ cs ≡ reference_written r ++ more) × Yields (record l { state = state.Reference p ref.Begins }) cs t

  pub reference_continues : (r : Reference) (more : List ℕ) → IsReference r → After (character_of r) more → Continues r more
  unfolding is_char encode_utf8
  reference_continues lt more h a = (_, refl, stepped (λ at. refl) (stepped (λ at. refl) (letters_end (codes "lt") 0x3C more refl a)))
  reference_continues gt more h a = (_, refl, stepped (λ at. refl) (stepped (λ at. refl) (letters_end (codes "gt") 0x3E more refl a)))
  reference_continues amp more h a = (_, refl, stepped (λ at. refl) (stepped (λ at. refl) (stepped (λ at. refl) (letters_end (codes "amp") 0x26 more refl a))))
  reference_continues apos more h a =
      (_, refl, stepped (λ at. refl) (stepped (λ at. refl) (stepped (λ at. refl) (stepped (λ at. refl) (letters_end (codes "apos") 0x27 more refl a)))))
  reference_continues quot more h a =
      (_, refl, stepped (λ at. refl) (stepped (λ at. refl) (stepped (λ at. refl) (stepped (λ at. refl) (letters_end (codes "quot") 0x22 more refl a)))))
  reference_continues (decimal digits) more h a =
      let joined : 0x26 ∷ 0x23 ∷ (digits ++ 0x3B ∷ more) ≡ reference_written (decimal digits) ++ more = simp append_assoc in
      (0x23 ∷ (digits ++ 0x3B ∷ more), joined, stepped (λ at. refl) (decimal_read digits more h a))
  reference_continues (hexadecimal digits) more h a =
      let joined : 0x26 ∷ 0x23 ∷ 0x78 ∷ (digits ++ 0x3B ∷ more) ≡ reference_written (hexadecimal digits) ++ more = simp append_assoc in
      (0x23 ∷ 0x78 ∷ (digits ++ 0x3B ∷ more), joined, stepped (λ at. refl) (stepped (λ at. refl) (hexadecimal_read digits more h a)))

  -- a reference, from its first character
  pub reference_read : (from : Lexed) → ((at : ℕ) → next from at 0x26 ≡ Some (record l { state = state.Reference p ref.Begins }, None))
      → (r : Reference) (more : List ℕ) → IsReference r → After (character_of r) more → Yields from (reference_written r ++ more) t
  reference_read from begins r more h a = let c = reference_continues r more h a in subst (λ cs. Yields from cs t) c.1 (stepped begins c.2)

no_colon : (c : ℕ) → is_name_char c ≡ true → (c == 0x3A) ≡ false
no_colon c h = ne_eqb c 0x3A (λ e. both_ways _ colon_ends (subst (λ x. is_name_char x ≡ true) e h))

-- a part that has characters
abbrev pub IsBegun : NamePart → Type 0
IsBegun part.Begins = ⊥
IsBegun part.LocalBegins = ⊥
IsBegun p = Unit {0}

colon_legal : is_char 0x3A ≡ true
unfolding is_char
colon_legal = refl

module _ (l : Lexed) (n : Named) (t : Token) where
  -- in a part of the name, with the characters that were read
  abbrev pub in_name : NamePart → List ℕ → List ℕ → Lexed
  in_name p prefix local = record l { state = state.Name n p; name = record { prefix = encode_utf8_all prefix; local = encode_utf8_all local } }

  begun_goes_on : (p : NamePart) (k : Lexed) (c : ℕ) → IsBegun p → (c == 0x3A) ≡ false → named_in n p k c ≡ name_goes_on n k c
  begun_goes_on part.Begins k c b h = absurd b
  begun_goes_on part.LocalBegins k c b h = absurd b
  begun_goes_on part.First k c b h = cond-false _ _ _ h
  begun_goes_on part.Local k c b h = refl

  -- the name goes on
  gathered : (p : NamePart) (prefix cs read more : List ℕ) → IsBegun p → list_all is_name_char cs ≡ true → Yields (in_name p prefix (read ++ cs)) more t
      → Yields (in_name p prefix read) (cs ++ more) t
  gathered p prefix [] read more b h y = subst (λ x. Yields (in_name p prefix x) more t) (append-nil read) y
  gathered p prefix (c ∷ cs) read more b h y =
      let both = and_parts (is_name_char c) (list_all is_name_char cs) h in
      stepped
      (λ at. cond-true _ _ _ (name_char_is_legal c both.0) ∙ begun_goes_on p (in_name p prefix read) c b (no_colon c both.0) ∙ cond-true _ _ _ both.0
      ∙ ap (λ x. Some (record l { state = state.Name n p; name = record { prefix = encode_utf8_all prefix; local = x } }, None)) (sym (encoded_more read c)))
      (gathered p prefix cs (read ++ c ∷ []) more b both.1 (subst (λ x. Yields (in_name p prefix x) more t) (sym (append_assoc read (c ∷ []) cs)) y))

  -- and ends
  name_ends : (p : NamePart) (prefix local more : List ℕ) → IsBegun p → Stops is_name_part more → Reads (after_name n (in_name p prefix local)) more t
      → Yields (in_name p prefix local) more t
  name_ends p prefix local [] b s r = absurd r
  name_ends p prefix local (c ∷ cs) b s r =
      let both = or_parts (is_name_char c) (c == 0x3A) s in
      reads (λ d. named_in n p (in_name p prefix local) d) (λ at d h. cond-true _ _ _ h)
      (r.0, subst (λ o. Gives o cs t) (sym (begun_goes_on p (in_name p prefix local) c b both.1 ∙ cond-false _ _ _ both.0)) r.1)

  one_more : (p : NamePart) (prefix : List ℕ) (c : ℕ) → is_name_start c ≡ true
      → name_begins n p (record l { name = record { prefix = encode_utf8_all prefix; local = [] } }) c ≡ Some (in_name p prefix (c ∷ []), None)
  one_more p prefix c h = cond-true _ _ _ h
      ∙ ap (λ x. Some (record l { state = state.Name n p; name = record { prefix = encode_utf8_all prefix; local = x } }, None)) (sym (encoded_more [] c))

  -- a part of the name, from its first character
  part_read : (p : NamePart) (prefix local more : List ℕ) → IsBegun p → is_ncname local ≡ true → Yields (in_name p prefix local) more t
      → Reads (name_begins n p (record l { name = record { prefix = encode_utf8_all prefix; local = [] } })) (local ++ more) t
  part_read p prefix [] more b h y = cc
  part_read p prefix (c ∷ cs) more b h y =
      let both = and_parts (is_name_start c) (list_all is_name_char cs) h in
      (start_is_legal c both.0, subst (λ o. Gives o (cs ++ more) t) (sym (one_more p prefix c both.0)) (gathered p prefix cs (c ∷ []) more b both.1 y))

  -- after the colon
  colon_read : (prefix local more : List ℕ) → is_ncname local ≡ true → Yields (in_name part.Local prefix local) more t
      → Yields (in_name part.First [] prefix) (0x3A ∷ (local ++ more)) t
  colon_read prefix local more h y =
      stepped (λ at. cond-true _ _ _ colon_legal)
      (reads (name_begins n part.Local (record l { state = state.Name n part.LocalBegins; name = record { prefix = encode_utf8_all prefix; local = [] } })) (λ at c h. cond-true _ _ _ h)
      (part_read part.Local prefix local more tt h y))

  -- a name, from its first character up to one that ends it
  pub name_read : (q : QName) (more : List ℕ) → IsQName q → Stops is_name_part more → ((p : NamePart) → Reads (after_name n (in_name p q.prefix q.local)) more t)
      → Reads (name_begins n part.First (record l { name = no_name })) (name_written q ++ more) t
  name_read q more h s r = by_prefix q.prefix q.local h r
    where
      by_prefix : (prefix local : List ℕ) → IsQName (record { prefix = prefix; local = local }) → ((p : NamePart) → Reads (after_name n (in_name p prefix local)) more t)
          → Reads (name_begins n part.First (record l { name = no_name })) (name_written (record { prefix = prefix; local = local }) ++ more) t
      by_prefix [] local h r = part_read part.First [] local more tt h.1 (name_ends part.First [] local more tt s (r part.First))
      by_prefix (c ∷ cs) local h r =
          let joined : (c ∷ cs) ++ (0x3A ∷ (local ++ more)) ≡ name_written (record { prefix = c ∷ cs; local = local }) ++ more = simp append_assoc in
          subst (λ x. Reads (name_begins n part.First (record l { name = no_name })) x t) joined
          (part_read part.First [] (c ∷ cs) (0x3A ∷ (local ++ more)) tt h.0
          (colon_read (c ∷ cs) local more h.1 (name_ends part.Local (c ∷ cs) local more tt s (r part.Local))))
