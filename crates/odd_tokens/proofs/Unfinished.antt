-- What a lexer that has read some characters of a token makes of the next one.
use Rattle.std.proofs.Common.{◌≡◌, ◌≢◌, inl, inr, ⊎_elim, ℕ, ◌+◌, Bool, true, false, if◌then◌else◌, List, [], ◌∷◌, ◌++◌, length, Some, None, refl, sym, ap, ap₂, ◌∙◌, subst, subst₂, append_assoc, append-nil}
use Rattle.std.specs.Prelude.{◌↔◌, Option, Result, Ok, Err, IfOk, IfErr, encode_utf8}
use Rattle.std.specs.Option.{IfSome, IfNone}
use Rattle.std.proofs.lemmas.Option.{same_Some}
use Rattle.std.specs.List.{list_all}
use Rattle.std.proofs.lemmas.Bool.{and_from, cond-true, cond-false}
use Rattle.odd_tokens.specs.Characters.{is_char}
use Rattle.odd_tokens.specs.Lexing.{Lexed, Taken, Follows, lexed, next, next_in, started}
use Rattle.odd_tokens.specs.Openings.{declaration_written}
use Rattle.odd_tokens.specs.Tokens.{token_written}
use Rattle.odd_tokens.specs.Unfinished.{IsIdle, Goes, HasRead, Reads, With, IsMark, GoesOn, Ends, NoneBegins}
use Rattle.odd_tokens.specs.Whole.{IsWhole}
use Rattle.odd_tokens.specs.declared.lexer.Fault.{Fault}
use Rattle.odd_tokens.specs.declared.lexer.Fault.TheVariants as fault
use Rattle.odd_tokens.specs.declared.lexer.Lexer.{Lexer}
use Rattle.odd_tokens.specs.declared.lexer.State.{State}
use Rattle.odd_tokens.specs.declared.lexer.State.TheVariants as state
use Rattle.odd_tokens.specs.declared.token.Token.{Token}
use Rattle.odd_tokens.specs.declared.token.Token.TheVariants as token
use Rattle.odd_tokens.proofs.InToken.{InToken, token_begins, token_alone, token_goes_on, token_ends, token_unfinished}
use Rattle.odd_tokens.proofs.LexedDeclaration.{token_lexed, declaration_lexed, mark_lexed}
use Rattle.odd_tokens.proofs.LexedSteps.{Lexes}
use Rattle.odd_tokens.proofs.LexedSteps.Lexes.{last, more}

-- what is taken is taken in one way
one_taken : (x : Taken) (m n : Lexed) (g h : Option Token) → x ≡ Some (m, g) → x ≡ Some (n, h) → (m ≡ n) × (g ≡ h)
one_taken x m n g h e f =
    let pair : (m, g) ≡ (n, h) = same_Some (m, g) (n, h) (sym e ∙ f) in
    (ap (λ (p : Lexed × Option Token). p.0) pair, ap (λ (p : Lexed × Option Token). p.1) pair)

not_both : (x : Taken) (m n : Lexed) (t : Token) → x ≡ Some (m, Some t) → x ≡ Some (n, None) → ⊥
not_both x m n t e f = let apart : Some t ≡ None = (one_taken x m n (Some t) None e f).1 in cc

not_none : (x : Taken) (m : Lexed) (g : Option Token) → x ≡ Some (m, g) → x ≡ None → ⊥
not_none x m g e f = cc

-- one more character of the token

-- in a token, it is one wherever the character stands
in_state : (s : State) (l : Lexed) (a b c : ℕ) → s ≢ state.Between → next_in s l a c ≡ next_in s l b c
in_state state.Between l a b c n = absurd (n refl)
in_state s l a b c n = refl

anywhere : (l : Lexed) (a b c : ℕ) → l.state ≢ state.Between → next l a c ≡ next l b c
anywhere l a b c n = ap (λ (x : Taken). if is_char c then x else None) (in_state l.state l a b c n)

goes_inside : (l m n : Lexed) (at here c : ℕ) (cs : List ℕ) → l.state ≢ state.Between → Goes l at cs m → next m here c ≡ Some (n, None) → n.state ≢ state.Between
    → Goes l at (cs ++ c ∷ []) n
goes_inside l m n at here c [] i g e s = (n, anywhere l at here c i ∙ ap (λ k. next k here c) g ∙ e, s, refl)
goes_inside l m n at here c (d ∷ ds) i g e s = (g.0, g.1, g.2, goes_inside g.0 m n (at + length (encode_utf8 d)) here c ds g.2 g.3 e s)

goes_on : (l m n : Lexed) (at here c : ℕ) (cs : List ℕ) → (cs ≡ [] → at ≡ here) → Goes l at cs m → next m here c ≡ Some (n, None) → n.state ≢ state.Between
    → Goes l at (cs ++ c ∷ []) n
goes_on l m n at here c [] h g e s = (n, ap (λ b. next l b c) (h refl) ∙ ap (λ k. next k here c) g ∙ e, s, refl)
goes_on l m n at here c (d ∷ ds) h g e s = (g.0, g.1, g.2, goes_inside g.0 m n (at + length (encode_utf8 d)) here c ds g.2 g.3 e s)

-- where none was read, and where some were

pub nothing_read : (l : Lexed) (fresh : Bool) (at : ℕ) → IsIdle l → l.opening ≡ fresh → HasRead l fresh at []
nothing_read l fresh at i o = record { before = l; idle = i; opened = o; goes = refl }

between : {l : Lexed} {fresh : Bool} {at : ℕ} → HasRead l fresh at [] → IsIdle l × (l.opening ≡ fresh)
between {fresh = fresh} h = subst (λ (k : Lexed). IsIdle k × (k.opening ≡ fresh)) h.goes (h.idle, h.opened)

in_token_on : (fresh : Bool) (at here : ℕ) (read cs : List ℕ) (l m : Lexed) → InToken fresh at read l → Goes l here cs m → InToken fresh at (read ++ cs) m
in_token_on fresh at here read [] l m t g = subst₂ (λ r k. InToken fresh at r k) (sym (append-nil read)) g t
in_token_on fresh at here read (c ∷ cs) l m t g =
    subst (λ r. InToken fresh at r m) (append_assoc read (c ∷ []) cs) (in_token_on fresh at (here + length (encode_utf8 c)) (read ++ c ∷ []) cs g.0 m (token_goes_on fresh at here c read l g.0 t g.1) g.3)

in_token : {l : Lexed} {fresh : Bool} {at c : ℕ} {cs : List ℕ} → HasRead l fresh at (c ∷ cs) → InToken fresh at (c ∷ cs) l
in_token {l = l} {fresh = fresh} {at = at} {c = c} {cs = cs} h =
    ⊎_elim (λ m. absurd (h.goes.2 m.3.between)) (λ t. in_token_on fresh at (at + length (encode_utf8 c)) (c ∷ []) cs h.goes.0 l (subst (λ f. InToken f at (c ∷ []) h.goes.0) h.opened t) h.goes.3)
    (token_begins h.before h.goes.0 at c h.idle h.goes.1)

pub stands_in : {l : Lexed} {fresh : Bool} {at : ℕ} (read : List ℕ) → HasRead l fresh at read → read ≢ [] → (l.state ≢ state.Between) × (l.begin ≡ at)
stands_in [] h n = absurd (n refl)
stands_in {l = l} {fresh = fresh} {at = at} (c ∷ cs) h n = token_unfinished fresh at (c ∷ cs) l (in_token h)

pub stands_between : {l : Lexed} {fresh : Bool} {at : ℕ} (read : List ℕ) → HasRead l fresh at read → (l.state ≡ state.Between) ↔ (read ≡ [])
stands_between [] h = (λ e. refl, λ e. (between h).0.between)
stands_between (c ∷ cs) h = (λ e. absurd ((stands_in (c ∷ cs) h (λ n. cc n)).0 e), λ n. cc n)

-- what is whole is lexed from between two tokens

whole_lexes : (k : Lexed) (fresh : Bool) (at : ℕ) (cs : List ℕ) (made : Token) → IsIdle k → k.opening ≡ fresh → (IsMark fresh at cs → ⊥) → IsWhole fresh at cs made
    → (after : Lexed) × Lexes k at cs after made
whole_lexes k fresh at cs made i o mark (inl r) =
    let l = token_lexed k at r.token i r.is_lexed (λ f z e. mark (sym o ∙ f, z, sym r.is_written ∙ ap token_written e)) in
    (l.0, subst₂ (λ xs t. Lexes k at xs l.0 t) r.is_written (sym r.is_made) l.3)
whole_lexes k fresh at cs made i o mark (inr d) =
    let l = declaration_lexed k at d.1.declaration i (o ∙ d.0) d.1.is_declaration in
    (l.0, subst₂ (λ xs t. Lexes k at xs l.0 t) d.1.is_written (sym d.1.is_made) l.3)

-- a byte order mark is passed over
mark_passed : (k : Lexed) (fresh : Bool) (at : ℕ) (cs : List ℕ) → IsIdle k → k.opening ≡ fresh → IsMark fresh at cs → (m : Lexed) × IsIdle m × (next k at 0xFEFF ≡ Some (m, None))
mark_passed k fresh at cs i o h = let m = mark_lexed k i (o ∙ h.0) in (m.0, m.1, ap (λ n. next k n 0xFEFF) h.1 ∙ m.3)

-- a token that ends is not gone on with
ends_apart : (k l after : Lexed) (at : ℕ) (cs left : List ℕ) (t : Token) → Lexes k at cs after t → Goes k at (cs ++ left) l → ⊥
ends_apart k l after at [] left t h g = elim h [ ]
ends_apart k l after at (c ∷ []) left t (last e) g = not_both (next k at c) after g.0 t e g.1
ends_apart k l after at (c ∷ cs) left t (more mid e h) g =
    let s = one_taken (next k at c) mid g.0 None None e g.1 in
    ends_apart g.0 l after (at + length (encode_utf8 c)) cs left t (subst (λ m. Lexes m (at + length (encode_utf8 c)) cs after t) s.0 h) g.3

first_apart : (k m : Lexed) (at c : ℕ) (cs : List ℕ) (l : Lexed) → IsIdle m → next k at c ≡ Some (m, None) → Goes k at (c ∷ cs) l → ⊥
first_apart k m at c cs l i e g = g.2 (sym (ap (λ (x : Lexed). x.state) (one_taken (next k at c) m g.0 None None e g.1).0) ∙ i.between)

-- nothing whole stands first in what was read
pub none_whole : {l : Lexed} {fresh : Bool} {at : ℕ} {read : List ℕ} (front left : List ℕ) (made : Token) → HasRead l fresh at read → read ≡ front ++ left → IsWhole fresh at front made → ⊥
none_whole {l = l} {fresh = fresh} {at = at} front left made h e w =
    let goes = subst (λ cs. Goes h.before at cs l) e h.goes in
    let x = whole_lexes h.before fresh at front made h.idle h.opened
    (λ m. let p = mark_passed h.before fresh at front h.idle h.opened m in
    first_apart h.before p.0 at 0xFEFF left l p.1 p.2 (subst (λ cs. Goes h.before at (cs ++ left) l) m.2 goes)) w in
    ends_apart h.before l x.0 at front left made x.1 goes

-- what is whole is so in one way

first_same : (c x : ℕ) (cs ys xs : List ℕ) → x ∷ xs ≡ c ∷ (cs ++ ys) → c ≡ x
first_same c x cs ys xs p = cc

rest_same : (c x : ℕ) (cs ys xs : List ℕ) → x ∷ xs ≡ c ∷ (cs ++ ys) → xs ≡ cs ++ ys
rest_same c x cs ys xs p = cc

lexes_once : (k a b : Lexed) (at : ℕ) (cs ys xs : List ℕ) (t u : Token) → xs ≡ cs ++ ys → Lexes k at cs a t → Lexes k at xs b u → (ys ≡ []) × (t ≡ u)
lexes_once k a b at [] ys xs t u p h j = elim h [ ]
lexes_once k a b at (c ∷ cs) ys [] t u p h j = elim j [ ]
lexes_once k a b at (c ∷ []) ys (x ∷ []) t u p (last e) (last f) =
    let s = one_taken (next k at c) a b (Some t) (Some u) e (ap (next k at) (first_same c x [] ys [] p) ∙ f) in
    (sym (rest_same c x [] ys [] p), same_Some t u s.1)
lexes_once k a b at (c ∷ []) ys (x ∷ xs) t u p (last e) (more mid f j) = absurd (not_both (next k at c) a mid t e (ap (next k at) (first_same c x [] ys xs p) ∙ f))
lexes_once k a b at (c ∷ cs) ys (x ∷ []) t u p (more mid e h) (last f) = absurd (not_both (next k at c) b mid u (ap (next k at) (first_same c x cs ys [] p) ∙ f) e)
lexes_once k a b at (c ∷ cs) ys (x ∷ xs) t u p (more mid e h) (more other f j) =
    let same : c ≡ x = first_same c x cs ys xs p in
    let s = one_taken (next k at c) mid other None None e (ap (next k at) same ∙ f) in
    lexes_once mid a b (at + length (encode_utf8 c)) cs ys xs t u (rest_same c x cs ys xs p) h (subst₂ (λ m z. Lexes m (at + length (encode_utf8 z)) xs b u) (sym s.0) (sym same) j)

no_front : (xs ys : List ℕ) → xs ++ ys ≡ [] → xs ≡ []
no_front [] ys e = refl
no_front (x ∷ xs) ys e = cc e

abbrev idle_at : Bool → Lexed
idle_at fresh = record started { opening = fresh }

pub one_made : (fresh : Bool) (at : ℕ) (cs more_cs : List ℕ) (made other : Token) → (IsMark fresh at cs → ⊥) → IsWhole fresh at cs made → IsWhole fresh at (cs ++ more_cs) other
    → (more_cs ≡ []) × (made ≡ other)
one_made fresh at cs ys made other mark v w =
    let i : IsIdle (idle_at fresh) = record { between = refl; plain = refl } in
    let x = whole_lexes (idle_at fresh) fresh at cs made i refl mark v in
    let y = whole_lexes (idle_at fresh) fresh at (cs ++ ys) other i refl (λ m. mark (m.0, m.1, first cs x.1 m.2)) w in
    lexes_once (idle_at fresh) x.0 y.0 at cs ys (cs ++ ys) made other refl x.1 y.1
  where
    first : (cs : List ℕ) {after : Lexed} → Lexes (idle_at fresh) at cs after made → cs ++ ys ≡ 0xFEFF ∷ [] → cs ≡ 0xFEFF ∷ []
    first [] h e = elim h [ ]
    first (c ∷ cs) h e = ap₂ ◌∷◌ (first_same c 0xFEFF cs ys [] (sym e)) (no_front cs ys (sym (rest_same c 0xFEFF cs ys [] (sym e))))

-- the characters of a whole token are those of XML

legal_if : (x : Bool) (taken : Taken) (m : Lexed) (g : Option Token) → (if x then taken else None) ≡ Some (m, g) → x ≡ true
legal_if true taken m g e = refl
legal_if false taken m g e = cc

lexes_legal : (l after : Lexed) (at : ℕ) (cs : List ℕ) (t : Token) → Lexes l at cs after t → list_all is_char cs ≡ true
lexes_legal l after at [] t h = elim h [ ]
lexes_legal l after at (c ∷ []) t (last e) = and_from _ _ (legal_if (is_char c) (next_in l.state l at c) after (Some t) e) refl
lexes_legal l after at (c ∷ cs) t (more mid e h) =
    and_from _ _ (legal_if (is_char c) (next_in l.state l at c) mid None e) (lexes_legal mid after (at + length (encode_utf8 c)) cs t h)

pub whole_legal : (fresh : Bool) (at : ℕ) (cs : List ℕ) (made : Token) → IsWhole fresh at cs made → list_all is_char cs ≡ true
whole_legal fresh at cs made (inl r) =
    let x = whole_lexes (idle_at false) false at cs made (record { between = refl; plain = refl }) refl (λ m. cc m.0) (inl r) in
    lexes_legal (idle_at false) x.0 at cs made x.1
whole_legal fresh at cs made (inr d) =
    let x = declaration_lexed (idle_at true) at d.1.declaration (record { between = refl; plain = refl }) refl d.1.is_declaration in
    subst (λ xs. list_all is_char xs ≡ true) d.1.is_written (lexes_legal (idle_at true) x.0 at (declaration_written d.1.declaration) token.Passed x.3)

pub whole_some : (fresh : Bool) (at : ℕ) (made : Token) → IsWhole fresh at [] made → ⊥
whole_some fresh at made w = let x = whole_lexes (idle_at fresh) fresh at [] made (record { between = refl; plain = refl }) refl (λ m. cc m.2) w in elim x.1 [ ]

-- the next character

lexes_after : (k l after : Lexed) (at : ℕ) (cs ds xs : List ℕ) (t : Token) → xs ≡ cs ++ ds → Goes k at cs l → Lexes k at xs after t → (here : ℕ) × (cs ≡ [] → at ≡ here) × Lexes l here ds after t
lexes_after k l after at [] ds xs t p g h = (at, λ e. refl, subst₂ (λ m ys. Lexes m at ys after t) g p h)
lexes_after k l after at (c ∷ cs) ds [] t p g h = elim h [ ]
lexes_after k l after at (c ∷ cs) ds (x ∷ []) t p g (last e) = absurd (not_both (next k at x) after g.0 t e (ap (next k at) (sym (first_same c x cs ds [] p)) ∙ g.1))
lexes_after k l after at (c ∷ cs) ds (x ∷ xs) t p g (more mid e h) =
    let same : c ≡ x = first_same c x cs ds xs p in
    let s = one_taken (next k at c) g.0 mid None None g.1 (ap (next k at) same ∙ e) in
    let f = lexes_after g.0 l after (at + length (encode_utf8 c)) cs ds xs t (rest_same c x cs ds xs p) g.3
    (subst₂ (λ m z. Lexes m (at + length (encode_utf8 z)) xs after t) (sym s.0) (sym same) h) in
    (f.0, λ e. cc e, f.2)

lexes_some : (l after : Lexed) (here c : ℕ) (cs : List ℕ) (t : Token) → Lexes l here (c ∷ cs) after t → next l here c ≢ None
lexes_some l after here c [] t (last e) f = not_none (next l here c) after (Some t) e f
lexes_some l after here c cs t (more mid e h) f = not_none (next l here c) mid None e f

alone : (read : List ℕ) (c : ℕ) (more_cs : List ℕ) → read ++ c ∷ more_cs ≡ 0xFEFF ∷ [] → (read ≡ []) × (c ≡ 0xFEFF)
alone [] c ys e = (refl, cc e)
alone (d ∷ []) c ys e = cc e
alone (d ∷ (x ∷ xs)) c ys e = cc e

module _ {l : Lexed} {fresh : Bool} {at : ℕ} (here c : ℕ) where
  mark_next : (read : List ℕ) → HasRead l fresh at read → (read ≡ [] → at ≡ here) → fresh ≡ true → at ≡ 0 → read ≡ [] → c ≡ 0xFEFF → (m : Lexed) × (next l here c ≡ Some (m, None))
  mark_next [] h place f z e d =
      let i = between h in
      let m = mark_lexed l i.0 (i.1 ∙ f) in
      (m.0, ap (λ b. next l b c) (sym (place refl) ∙ z) ∙ ap (next l 0) d ∙ m.3)
  mark_next (x ∷ xs) h place f z e d = cc e

  same_place : (read : List ℕ) (there : ℕ) → HasRead l fresh at read → (read ≡ [] → at ≡ here) → (read ≡ [] → at ≡ there) → next l there c ≡ next l here c
  same_place [] there h p q = ap (λ b. next l b c) (sym (q refl) ∙ p refl)
  same_place (x ∷ xs) there h p q = anywhere l there here c (stands_in (x ∷ xs) h (λ e. cc e)).0

  makes_none : (read : List ℕ) → HasRead l fresh at read → (read ≡ [] → at ≡ here) → next l here c ≡ None → NoneBegins fresh at (read ++ c ∷ [])
  makes_none read h place e ys made w =
      let x = whole_lexes h.before fresh at ((read ++ c ∷ []) ++ ys) made h.idle h.opened
      (λ m. let a = alone read c ys (sym (append_assoc read (c ∷ []) ys) ∙ m.2) in
      let p = mark_next read h place m.0 m.1 a.0 a.1 in
      not_none (next l here c) p.0 None p.1 e) w in
      let y = lexes_after h.before l x.0 at read (c ∷ ys) ((read ++ c ∷ []) ++ ys) made (append_assoc read (c ∷ []) ys) h.goes x.1 in
      lexes_some l x.0 y.0 c ys made y.2 (same_place read y.0 h place y.1 ∙ e)

  makes_more : (m : Lexed) (read : List ℕ) → HasRead l fresh at read → (read ≡ [] → at ≡ here) → next l here c ≡ Some (m, None) → m.state ≢ state.Between
      → GoesOn (HasRead m) fresh at (read ++ c ∷ [])
  makes_more m read h place e s =
      let k : HasRead m fresh at (read ++ c ∷ []) = record { before = h.before; idle = h.idle; opened = h.opened; goes = goes_on h.before l m at here c read place h.goes e s } in
      inr (λ made w. none_whole (read ++ c ∷ []) [] made k (sym (append-nil (read ++ c ∷ []))) w, k)

  makes_on : (m : Lexed) (read : List ℕ) → HasRead l fresh at read → (read ≡ [] → at ≡ here) → next l here c ≡ Some (m, None) → GoesOn (HasRead m) fresh at (read ++ c ∷ [])
  makes_on m [] h place e =
      let i = between h in
      ⊎_elim (λ k. inl ((sym i.1 ∙ k.0, k.1, ap (λ x. x ∷ []) k.2), λ there. nothing_read m true there k.3 k.4))
      (λ t. makes_more m [] h place e (token_unfinished l.opening at (c ∷ []) m t).0)
      (token_begins l m at c i.0 (ap (λ b. next l b c) (place refl) ∙ e))
  makes_on m (d ∷ ds) h place e =
      makes_more m (d ∷ ds) h place e (token_unfinished fresh at ((d ∷ ds) ++ c ∷ []) m (token_goes_on fresh at here c (d ∷ ds) l m (in_token h) e)).0

  makes_end : (m : Lexed) (made : Token) (read : List ℕ) → HasRead l fresh at read → (read ≡ [] → at ≡ here) → next l here c ≡ Some (m, Some made) → Ends (HasRead m) made fresh at (read ++ c ∷ [])
  makes_end m made read h place e = (f.2, unmarked, λ there. nothing_read m false there f.0 f.1)
    where
      ended : (read : List ℕ) → HasRead l fresh at read → (read ≡ [] → at ≡ here) → IsIdle m × (m.opening ≡ false) × IsWhole fresh at (read ++ c ∷ []) made
      ended [] h place = let a = token_alone l m at c made (between h).0 (ap (λ b. next l b c) (place refl) ∙ e) in (a.0, a.1, inl a.2)
      ended (d ∷ ds) h place = token_ends fresh at here c (d ∷ ds) l m made (in_token h) e

      f : IsIdle m × (m.opening ≡ false) × IsWhole fresh at (read ++ c ∷ []) made
      f = ended read h place

      unmarked : IsMark fresh at (read ++ c ∷ []) → ⊥
      unmarked k =
          let a = alone read c [] k.2 in
          let p = mark_next read h place k.0 k.1 a.0 a.1 in
          not_both (next l here c) m p.0 made e p.1

-- what it makes of them, by what it takes
abbrev pub Makes : Taken → Bool → ℕ → List ℕ → Type 0
Makes None = NoneBegins
Makes (Some (m, None)) = GoesOn (HasRead m)
Makes (Some (m, Some made)) = Ends (HasRead m) made

pub makes : {l : Lexed} {fresh : Bool} {at : ℕ} (here c : ℕ) (read : List ℕ) (x : Taken) → HasRead l fresh at read → (read ≡ [] → at ≡ here) → next l here c ≡ x → Makes x fresh at (read ++ c ∷ [])
makes here c read None h place e = makes_none here c read h place e
makes here c read (Some (m, None)) h place e = makes_on here c m read h place e
makes here c read (Some (m, Some made)) h place e = makes_end here c m made read h place e

-- the same of a lexer

taken_on : (l m : Lexer) (here c : ℕ) (r : Result (Option Token) Fault) → Follows (next (lexed l) here c) r (lexed m) → IfOk r (λ given. IfNone given (With l here c (GoesOn (Reads m))))
taken_on l m here c (Ok None) f = λ fresh at read h place. makes here c read _ h place f
taken_on l m here c (Ok (Some made)) f = tt
taken_on l m here c (Err e) f = tt

taken_whole : (l m : Lexer) (here c : ℕ) (r : Result (Option Token) Fault) → Follows (next (lexed l) here c) r (lexed m)
    → IfOk r (λ given. IfSome given (λ made. With l here c (Ends (Reads m) made)))
taken_whole l m here c (Ok None) f = tt
taken_whole l m here c (Ok (Some made)) f = λ fresh at read h place. makes here c read _ h place f
taken_whole l m here c (Err e) f = tt

taken_none : (l m : Lexer) (here c : ℕ) (r : Result (Option Token) Fault) → Follows (next (lexed l) here c) r (lexed m) → IfErr r (λ e. e ≡ fault.Malformed → With l here c NoneBegins)
taken_none l m here c (Ok given) f = tt
taken_none l m here c (Err e) f = λ n fresh at read h place. makes here c read _ h place (f n)

pub legal_taken : (l m : Lexer) (here c : ℕ) (r : Result (Option Token) Fault) → is_char c ≡ true → Follows (next_in (lexed l).state (lexed l) here c) r (lexed m)
    → IfOk r (λ given. IfNone given (With l here c (GoesOn (Reads m)))) × IfOk r (λ given. IfSome given (λ made. With l here c (Ends (Reads m) made)))
    × IfErr r (λ e. e ≡ fault.Malformed → With l here c NoneBegins)
legal_taken l m here c r legal f =
    let g : Follows (next (lexed l) here c) r (lexed m) =
    subst (λ x. Follows x r (lexed m)) (sym (cond-true (is_char c) (next_in (lexed l).state (lexed l) here c) None legal)) f in
    (taken_on l m here c r g, taken_whole l m here c r g, taken_none l m here c r g)

-- no token goes on with what is no character of XML
pub illegal_none : (l : Lexer) (here c : ℕ) → is_char c ≡ false → With l here c NoneBegins
illegal_none l here c h fresh at read k place = makes here c read None k place (cond-false (is_char c) (next_in (lexed l).state (lexed l) here c) None h)
