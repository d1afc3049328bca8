-- The lexer takes each kind of token where none is unfinished.
use Rattle.std.proofs.Common.{◌≡◌, ◌≢◌, ℕ, true, false, ◌==◌, ◌&&◌, List, [], ◌∷◌, ◌++◌, Some, None, codes, refl, sym, ap, ◌∙◌, subst, append_assoc}
use Rattle.std.proofs.lemmas.Bool.{cond-true, cond-false, ne_eqb, eqb-true, and_parts, and_right, false_from_ne_true}
use Rattle.std.proofs.lemmas.List.{append-nil}
use Rattle.odd_tokens.specs.Characters.{is_char}
use Rattle.odd_tokens.specs.Lexing.{Lexed, next}
use Rattle.odd_tokens.specs.Making.{token_made}
use Rattle.odd_tokens.specs.Tokens as written
use Rattle.odd_tokens.specs.declared.lexer.Place.TheVariants as place
use Rattle.odd_tokens.specs.declared.lexer.ReferencePart.TheVariants as ref
use Rattle.odd_tokens.specs.declared.lexer.State.TheVariants as state
use Rattle.odd_tokens.specs.declared.token.Token.{Token}
use Rattle.odd_tokens.specs.declared.token.Token.TheVariants as token
use Rattle.odd_tokens.proofs.LexedSteps.{IsIdle, IsLexed, Lexes, Yields, stepped}
use Rattle.odd_tokens.proofs.LexedSteps.Lexes.{last, more}
use Rattle.odd_tokens.proofs.LexedComments.{comment_yields, instruction_read, cdata_yields}
use Rattle.odd_tokens.proofs.LexedReferences.{reference_continues}
use Rattle.odd_tokens.proofs.LexedTags.{after_less, start_yields, empty_yields, end_yields}

-- the token is taken, and nothing is unfinished after it
abbrev pub Takes : Lexed → ℕ → List ℕ → Token → Type 0
Takes l at cs t = (after : Lexed) × IsIdle after × (after.opening ≡ false) × Lexes l at cs after t

-- between tokens
abbrev pub idle : Lexed → Lexed
idle l = record l { state = state.Between; declares = false }

pub is_idle : (l : Lexed) → IsIdle l → idle l ≡ l
is_idle l h i = record l { state = sym h.between i; declares = sym h.plain i }

-- a token that begins with `<`
pub less_takes : (l : Lexed) (at : ℕ) (cs : List ℕ) (t : Token) → Yields (after_less l at) cs t → Takes (idle l) at (0x3C ∷ cs) t
unfolding is_char
less_takes l at cs t y =
    let opens : next (idle l) at 0x3C ≡ Some (after_less l at, None) = cond-false _ _ _ (and_right (l.opening && at == 0) false refl) in
    (y.after, y.idle, y.opened, more (after_less l at) opens (y.lexes _))

character_takes : (l : Lexed) (at c : ℕ) → written.IsToken (written.character c) → (l.opening ≡ true → at ≡ 0 → written.character c ≢ written.character 0xFEFF)
    → Takes (idle l) at (c ∷ []) (token.Character c)
character_takes l at c h mark =
    let none : (l.opening && at == 0 && c == 0xFEFF) ≡ false = false_from_ne_true _ (λ e.
    let p = and_parts (l.opening && at == 0) (c == 0xFEFF) e in
    let q = and_parts l.opening (at == 0) p.0 in
    mark q.0 (eqb-true at 0 q.1) (ap (λ x. written.character x) (eqb-true c 0xFEFF p.1))) in (
      record (idle l) { opening = false; begin = at },
      record { between = refl; plain = refl },
      refl,
      last (cond-true _ _ _ h.0 ∙ cond-false _ _ _ none ∙ cond-false _ _ _ (ne_eqb c 0x3C h.1) ∙ cond-false _ _ _ (ne_eqb c 0x26 h.2)),
    )

reference_takes : (l : Lexed) (at : ℕ) (r : written.Reference) → written.IsReference r → Takes (idle l) at (written.reference_written r) (token.Referred (written.character_of r))
unfolding is_char
reference_takes l at r h =
    let t = token.Referred (written.character_of r) in
    let k = record (idle l) { opening = false; begin = at } in
    let c = reference_continues k place.Content t r [] h (λ s text number. (refl, refl, record { between = refl; plain = refl }, refl)) in
    let e : 0x26 ∷ c.0 ≡ written.reference_written r = c.1 ∙ append-nil (written.reference_written r) in
    let amp : next (idle l) at 0x26 ≡ Some (record k { state = state.Reference place.Content ref.Begins }, None) = cond-false _ _ _ (and_right (l.opening && at == 0) false refl) in
    let y = c.2 in
    subst (λ cs. Takes (idle l) at cs t) e (y.after, y.idle, y.opened, more _ amp (y.lexes _))

cdata_takes : (l : Lexed) (at : ℕ) (text : List ℕ) → written.IsToken (written.cdata text) → Takes (idle l) at (written.token_written (written.cdata text)) (token_made at (written.cdata text))
unfolding is_char
cdata_takes l at text h =
    less_takes l at _ _
    (stepped (λ at. refl) (stepped (λ at. refl) (stepped (λ at. refl) (stepped (λ at. refl) (stepped (λ at. refl) (stepped (λ at. refl) (stepped (λ at. refl) (stepped (λ at. refl)
    (cdata_yields (record (after_less l at) { opening = false }) refl refl text h.0 h.1)))))))))

comment_takes : (l : Lexed) (at : ℕ) (text : List ℕ) → written.IsToken (written.comment text) → Takes (idle l) at (written.token_written (written.comment text)) token.Passed
unfolding is_char
comment_takes l at text h =
    less_takes l at _ _
    (stepped (λ at. refl) (stepped (λ at. refl) (stepped (λ at. refl)
    (comment_yields (record (after_less l at) { opening = false }) refl refl text h.0 (h.1, h.2)))))

instruction_takes : (l : Lexed) (at : ℕ) (target rest : List ℕ) → written.IsToken (written.instruction target rest)
    → Takes (idle l) at (written.token_written (written.instruction target rest)) token.Passed
unfolding is_char
instruction_takes l at target rest h =
    let e : target ++ (rest ++ codes "?>") ≡ (target ++ rest) ++ codes "?>" = sym (append_assoc target rest (codes "?>")) in
    less_takes l at _ _
    (stepped (λ at. refl) (subst (λ cs. Yields (record (after_less l at) { state = state.Target; text = [] }) cs token.Passed) e
    (instruction_read (after_less l at) refl target rest h.0 h.1 h.2 h.3 h.4)))

end_takes : (l : Lexed) (at : ℕ) (name : written.QName) (space : List ℕ) → written.IsToken (written.end_tag name space)
    → Takes (idle l) at (written.token_written (written.end_tag name space)) (token_made at (written.end_tag name space))
end_takes l at name space h =
    let e : written.name_written name ++ (space ++ codes ">") ≡ (written.name_written name ++ space) ++ codes ">" = sym (append_assoc (written.name_written name) space (codes ">")) in
    less_takes l at _ _ (subst (λ cs. Yields (after_less l at) (0x2F ∷ cs) (token_made at (written.end_tag name space))) e (end_yields l at name space h.0 h.1))

pub idle_takes : (l : Lexed) (at : ℕ) (t : written.Token) → IsLexed t → (l.opening ≡ true → at ≡ 0 → t ≢ written.character 0xFEFF)
    → Takes (idle l) at (written.token_written t) (token_made at t)
idle_takes l at (written.character c) h mark = character_takes l at c h mark
idle_takes l at (written.referred r) h mark = reference_takes l at r h
idle_takes l at (written.cdata text) h mark = cdata_takes l at text h
idle_takes l at (written.comment text) h mark = comment_takes l at text h
idle_takes l at (written.instruction target rest) h mark = instruction_takes l at target rest h
idle_takes l at (written.start_tag t) h mark = less_takes l at _ _ (start_yields l at t h)
idle_takes l at (written.empty_tag t) h mark = less_takes l at _ _ (empty_yields l at t h)
idle_takes l at (written.end_tag name space) h mark = end_takes l at name space h

-- a byte order mark, which is none
pub mark_takes : (l : Lexed) → l.opening ≡ true → (after : Lexed) × IsIdle after × (after.opening ≡ true) × (next (idle l) 0 0xFEFF ≡ Some (after, None))
unfolding is_char
mark_takes l o =
    let both : (l.opening && true && true) ≡ true = rw o refl in
    (record (idle l) { begin = 0 }, record { between = refl; plain = refl }, o, cond-true _ _ _ both)
