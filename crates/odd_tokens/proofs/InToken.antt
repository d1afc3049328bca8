-- What the lexer read of a token that is not finished, and what the next character makes of it.
use Rattle.std.proofs.Common.{◌≡◌, ◌≢◌, ◌⊎◌, ℕ, Bool, true, false, ◌&&◌, ◌==◌, if◌then◌else◌, List, [], ◌∷◌, ◌++◌, Some, None, refl, sym, subst, inl, inr}
use Rattle.std.proofs.lemmas.Bool.{cond_both, and_parts, eqb-true, eqb-false}
use Rattle.odd_tokens.specs.Characters.{is_char}
use Rattle.odd_tokens.specs.Lexing.{Lexed, Taken, go, next, between}
use Rattle.odd_tokens.specs.Tokens as written
use Rattle.odd_tokens.specs.declared.lexer.Named.TheVariants as named
use Rattle.odd_tokens.specs.declared.lexer.Place.TheVariants as place
use Rattle.odd_tokens.specs.declared.lexer.ReferencePart.TheVariants as ref
use Rattle.odd_tokens.specs.declared.lexer.State.{State}
use Rattle.odd_tokens.specs.declared.lexer.State.TheVariants as state
use Rattle.odd_tokens.specs.declared.token.Token.{Token}
use Rattle.odd_tokens.specs.declared.token.Token.TheVariants as token
use Rattle.odd_tokens.proofs.LexedSteps.{IsIdle, IsRead, IsWhole}
use Rattle.odd_tokens.proofs.InReference.{reference_begins, reference_kept, at_character}
use Rattle.odd_tokens.proofs.InTag.{in_tag_goes_on, in_tag_ends, in_tag_unfinished}
use Rattle.odd_tokens.proofs.InTokenSteps.{less_steps, exclamation_steps, comment_dash_steps, comment_steps, cdata_open_steps, cdata_steps, target_steps, target_question_steps, instruction_steps, end_space_steps, end_name_steps, content_steps, InPlain, Follows}
pub use Rattle.odd_tokens.proofs.InTokenSteps.{InToken}

-- a character after an unfinished token

-- no token goes on with what is no character
when_legal : (opening : Bool) (at c : ℕ) (read : List ℕ) (taken : Taken) → (is_char c ≡ true → Follows opening at read taken)
    → Follows opening at read (if is_char c then taken else None)
when_legal opening at c read taken h = cond_both (is_char c) taken None (Follows opening at read) h (λ _. tt)

plain_steps : (s : State) (opening : Bool) (at here c : ℕ) (read : List ℕ) (l : Lexed) → InPlain s opening at read l
    → Follows opening at (read ++ c ∷ []) (next (record l { state = s }) here c)
plain_steps state.Less opening at here c read l h = when_legal opening at c _ _ (λ _. rw h.1 (less_steps opening at c (record l { state = state.Less }) h.0))
plain_steps state.Exclamation opening at here c read l h = when_legal opening at c _ _ (λ _. rw h.1 (exclamation_steps opening at c (record l { state = state.Exclamation }) h.0))
plain_steps state.CommentDash opening at here c read l h = when_legal opening at c _ _ (λ _. rw h.1 (comment_dash_steps opening at c (record l { state = state.CommentDash }) h.0))
plain_steps (state.Comment dashes) opening at here c read l h =
    when_legal opening at c _ _ (λ legal. comment_steps opening at c read (record l { state = state.Comment dashes }) dashes h.1 legal h.0 h.2)
plain_steps (state.CdataOpen letters) opening at here c read l h =
    when_legal opening at c _ _ (λ _. rw h.2 (cdata_open_steps opening at c (record l { state = state.CdataOpen letters }) letters h.1 h.0))
plain_steps (state.Cdata brackets r) opening at here c read l h = when_legal opening at c _ _ (λ legal. cdata_steps opening at c read l brackets r h.1 legal h.0 h.2)
plain_steps state.Target opening at here c read l h = when_legal opening at c _ _ (λ legal. target_steps opening at c read l legal h.0 h.1)
plain_steps state.TargetQuestion opening at here c read l h = when_legal opening at c _ _ (λ _. target_question_steps opening at c read (record l { state = state.TargetQuestion }) h.0 h.1)
plain_steps (state.Instruction asked) opening at here c read l h =
    when_legal opening at c _ _ (λ legal. instruction_steps opening at c read (record l { state = state.Instruction asked }) asked legal h.0 h.1)
plain_steps (state.Name named.EndTag p) opening at here c read l h = when_legal opening at c _ _ (λ _. end_name_steps opening at c read l p h.0 h.1)
plain_steps state.EndSpace opening at here c read l h = when_legal opening at c _ _ (λ _. end_space_steps opening at c read (record l { state = state.EndSpace }) h.0 h.1)
plain_steps (state.Reference place.Content p) opening at here c read l h =
    let k = record l { state = state.Reference place.Content p } in
    when_legal opening at c _ _ (λ legal. content_steps opening at c read k p legal h.0 (reference_kept p read l k refl refl h.1))
plain_steps s opening at here c read l h = absurd h

pub token_goes_on : (opening : Bool) (at here c : ℕ) (read : List ℕ) (l m : Lexed) → InToken opening at read l → next l here c ≡ Some (m, None)
    → InToken opening at (read ++ c ∷ []) m
token_goes_on opening at here c read l m (inl h) e = subst (Follows opening at (read ++ c ∷ [])) e (plain_steps l.state opening at here c read l h)
token_goes_on opening at here c read l m (inr (inl h)) e = inr (inl (in_tag_goes_on false at here c read l m h e))
token_goes_on opening at here c read l m (inr (inr h)) e = inr (inr (h.0, in_tag_goes_on true at here c read l m h.1 e))

pub token_ends : (opening : Bool) (at here c : ℕ) (read : List ℕ) (l m : Lexed) (made : Token) → InToken opening at read l → next l here c ≡ Some (m, Some made)
    → IsIdle m × (m.opening ≡ false) × IsWhole opening at (read ++ c ∷ []) made
token_ends opening at here c read l m made (inl h) e = subst (Follows opening at (read ++ c ∷ [])) e (plain_steps l.state opening at here c read l h)
token_ends opening at here c read l m made (inr (inl h)) e = let f = in_tag_ends false at here c read l m made h e in (f.0, f.1, inl f.2)
token_ends opening at here c read l m made (inr (inr h)) e = let f = in_tag_ends true at here c read l m made h.1 e in (f.0, f.1, inr (h.0, f.2))

plain_unfinished : (s : State) (opening : Bool) (at : ℕ) (read : List ℕ) (l : Lexed) → InPlain s opening at read l → (s ≢ state.Between) × (l.begin ≡ at)
plain_unfinished state.Less opening at read l h = (λ e. cc, h.0.1)
plain_unfinished state.Exclamation opening at read l h = (λ e. cc, h.0.1)
plain_unfinished state.CommentDash opening at read l h = (λ e. cc, h.0.1)
plain_unfinished (state.Comment dashes) opening at read l h = (λ e. cc, h.0.1)
plain_unfinished (state.CdataOpen letters) opening at read l h = (λ e. cc, h.0.1)
plain_unfinished (state.Cdata brackets r) opening at read l h = (λ e. cc, h.0.1)
plain_unfinished state.Target opening at read l h = (λ e. cc, h.0.1)
plain_unfinished state.TargetQuestion opening at read l h = (λ e. cc, h.0.1)
plain_unfinished (state.Instruction asked) opening at read l h = (λ e. cc, h.0.1)
plain_unfinished (state.Name named.EndTag p) opening at read l h = (λ e. cc, h.0.1)
plain_unfinished state.EndSpace opening at read l h = (λ e. cc, h.0.1)
plain_unfinished (state.Reference place.Content p) opening at read l h = (λ e. cc, h.0.1)
plain_unfinished s opening at read l h = absurd h

pub token_unfinished : (opening : Bool) (at : ℕ) (read : List ℕ) (l : Lexed) → InToken opening at read l → (l.state ≢ state.Between) × (l.begin ≡ at)
token_unfinished opening at read l (inl h) = plain_unfinished l.state opening at read l h
token_unfinished opening at read l (inr (inl h)) = in_tag_unfinished false at read l h
token_unfinished opening at read l (inr (inr h)) = in_tag_unfinished true at read l h.1

-- a character after no unfinished token

-- a byte order mark, and the lexer as it was
abbrev Marked : Lexed → ℕ → ℕ → Lexed → Type 0
Marked l at c m = (l.opening ≡ true) × (at ≡ 0) × (c ≡ 0xFEFF) × IsIdle m × (m.opening ≡ true)

abbrev Begins : Lexed → ℕ → ℕ → List ℕ → Taken → Type 0
Begins l at c read None = Unit {0}
Begins l at c read (Some (m, None)) = Marked l at c m ⊎ InToken l.opening at read m
Begins l at c read (Some (m, Some made)) = IsIdle m × (m.opening ≡ false) × IsRead at read made

begins : (l : Lexed) (at c : ℕ) → l.declares ≡ false → is_char c ≡ true → Begins l at c (c ∷ []) (between (record l { state = state.Between; begin = at }) at c)
begins l at c plain legal =
    cond_both (l.opening && at == 0 && c == 0xFEFF) (Some (k, None)) otherwise (Q (c ∷ [])) marked (λ _.
    at_character Q [] c 0x3C (go state.Less k) (if c == 0x26 then reference else alone) (inr (inl ((refl, refl, plain), refl))) (λ e.
    at_character Q [] c 0x26 reference alone (inr (inl ((refl, refl, plain), reference_begins k))) (λ f.
    (record { between = refl; plain = plain }, refl, record { token = written.character c; is_lexed = (legal, eqb-false c 0x3C e, eqb-false c 0x26 f); is_written = refl; is_made = refl }))))
  where
    k : Lexed
    k = record l { state = state.Between; begin = at }

    reference : Taken
    reference = go (state.Reference place.Content ref.Begins) (record k { opening = false })

    alone : Taken
    alone = Some (record k { opening = false }, Some (token.Character c))

    otherwise : Taken
    otherwise = if c == 0x3C then go state.Less k else (if c == 0x26 then reference else alone)

    Q : List ℕ → Taken → Type 0
    Q = Begins l at c

    marked : (l.opening && at == 0 && c == 0xFEFF) ≡ true → Q (c ∷ []) (Some (k, None))
    marked h =
        let f = and_parts (l.opening && at == 0) (c == 0xFEFF) h in
        let g = and_parts l.opening (at == 0) f.0 in
        inl (g.0, eqb-true at 0 g.1, eqb-true c 0xFEFF f.1, record { between = refl; plain = plain }, g.0)

next_begins : (l : Lexed) (at c : ℕ) → IsIdle l → Begins l at c (c ∷ []) (next l at c)
next_begins l at c h =
    subst (λ s. Begins l at c (c ∷ []) (next (record l { state = s }) at c)) (sym h.between)
    (cond_both (is_char c) (between (record l { state = state.Between; begin = at }) at c) None (Begins l at c (c ∷ [])) (λ legal. begins l at c h.plain legal) (λ _. tt))

-- a byte order mark, a token of one character, or the first character of a token
pub token_begins : (l m : Lexed) (at c : ℕ) → IsIdle l → next l at c ≡ Some (m, None)
    → ((l.opening ≡ true) × (at ≡ 0) × (c ≡ 0xFEFF) × IsIdle m × (m.opening ≡ true)) ⊎ InToken l.opening at (c ∷ []) m
token_begins l m at c h e = subst (Begins l at c (c ∷ [])) e (next_begins l at c h)

pub token_alone : (l m : Lexed) (at c : ℕ) (made : Token) → IsIdle l → next l at c ≡ Some (m, Some made) → IsIdle m × (m.opening ≡ false) × IsRead at (c ∷ []) made
token_alone l m at c made h e = subst (Begins l at c (c ∷ [])) e (next_begins l at c h)
