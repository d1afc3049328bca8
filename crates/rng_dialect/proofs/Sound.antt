-- The machine takes only characters that the grammar has: what leads to a state is the front of a spelling.
use Rattle.std.proofs.Common.{◌≡◌, ◌≢◌, ℕ, ◌+◌, ◌*◌, ◌≤◌, max, nat_le, Bool, ◌==◌, List, [], ◌∷◌, ◌++◌, IsTrue, Option, Some, None, option_and_then, if◌then◌else◌, ◌&&◌, refl, sym, ap, ◌∙◌, subst, append_assoc, append-nil}
use Rattle.std.proofs.lemmas.Bool.{and_parts, cond_both, eqb-true, leb-true}
use Rattle.std.specs.Char.{is_ascii_digit}
use Rattle.rng_dialect.proofs.Classes.{class_run_more, class_sound}
use Rattle.rng_dialect.proofs.Numbers.{AreDigits, digit_more, first_digit, no_digits, not_empty, number_from, room_from}
use Rattle.rng_dialect.proofs.Levels.{Front, IsSpelled, Stand, branch_stand, inner, level_whole, lowest, nested_spelled, new_stand, once_stand, open_stand, piece_continues, piece_stand}
use Rattle.rng_dialect.specs.Class.{backslash, is_escaped}
use Rattle.rng_dialect.specs.ClassReading.{class_run, class_step, new_class}
use Rattle.rng_dialect.specs.Dialect.{IsAtom, IsNumber, IsQuantifier, Spells, between, is_plain}
use Rattle.rng_dialect.specs.Reading.{AtomRead, Behind, Escape, InClass, Least, LevelRead, Most, Start, State, after, atom_read, behind_step, class_atom, closed, ended, has_room, in_class, least_step, may_reach, most_closed, most_step, new_state, once, regex_of, start_step, state_at, step, value_of, with_piece}
use Rattle.rng_types.specs.declared.bounds.Bounds.{Bounds}
use Rattle.rng_dialect.specs.declared.class.ClassReader.{ClassReader}
use Rattle.rng_dialect.specs.declared.class.ClassTaken.{ClassTaken}
use Rattle.rng_dialect.specs.declared.class.ClassTaken.TheVariants as taken
use Rattle.rng_dialect.specs.declared.regex.Atom.TheVariants as atom

-- the characters of a front lead to a state
pub data Leads : Front → State → Type 0 where
  at_start : {outer : List LevelRead} {l : LevelRead} {g : Front} → Stand outer l g → Leads g (state_at outer l Start)
  behind : {outer : List LevelRead} {l : LevelRead} {g k : Front} {a : AtomRead} → Stand outer l g → IsSpelled k a → Leads (λ r. g (k r)) (state_at outer l (Behind a))
  at_escape : {outer : List LevelRead} {l : LevelRead} {g : Front} → Stand outer l g → Leads (λ r. g (backslash ∷ r)) (state_at outer l Escape)
  in_least : {outer : List LevelRead} {l : LevelRead} {g k : Front} {a : AtomRead} {ds : List ℕ} → Stand outer l g → IsSpelled k a → AreDigits ds
      → Leads (λ r. g (k (0x7B ∷ (ds ++ r)))) (state_at outer l (Least a ds))
  in_most : {outer : List LevelRead} {l : LevelRead} {g k : Front} {a : AtomRead} {min : ℕ} {ds : List ℕ} (digits : List ℕ) → Stand outer l g → IsSpelled k a
      → IsNumber digits min → AreDigits ds → (ds ≢ [] → IsTrue (may_reach min ds)) → Leads (λ r. g (k (0x7B ∷ (digits ++ 0x2C ∷ (ds ++ r))))) (state_at outer l (Most a min ds))
  within_class : {outer : List LevelRead} {l : LevelRead} {g : Front} {at : ClassReader} (front : List ℕ) → Stand outer l g → class_run new_class front ≡ Some at
      → Leads (λ r. g (0x5B ∷ (front ++ r))) (state_at outer l (InClass at))

-- and to the state after a step, where there is one
abbrev pub Kept : Front → Option State → Type 0
Kept f None = Unit {0}
Kept f (Some s) = Leads f s

-- the character is the one that a test names
named : (f : Front) (c d : ℕ) (s : State) → IsTrue (c == d) → Leads (λ r. f (d ∷ r)) s → Leads (λ r. f (c ∷ r)) s
named f c d s e h = subst (λ x. Leads (λ r. f (x ∷ r)) s) (sym (eqb-true c d e)) h

-- one of two steps
if_kept : (f : Front) (b : Bool) (s : State) (o : Option State) → (IsTrue b → Leads f s) → Kept f o → Kept f (if b then Some s else o)
if_kept f b s o kept others = cond_both b (Some s) o (Kept f) kept (λ _. others)

-- a piece is whole
piece_leads : (outer : List LevelRead) (l : LevelRead) (g k : Front) (a : AtomRead) (q : Front) (b : Bounds) (size : ℕ) → Stand outer l g → IsSpelled k a
    → ((rest : List ℕ) → IsQuantifier a.size (q rest) b size rest) → Leads (λ r. g (k (q r))) (state_at outer (with_piece l a b size) Start)
piece_leads outer l g k a q b size d s h = at_start (piece_stand outer l g k q a b size d s h)

-- a `)` ends the level
closed_kept : (outer : List LevelRead) (l : LevelRead) (g : Front) → Stand outer l g → Kept (λ r. g (0x29 ∷ r)) (closed outer l)
closed_kept [] l g d = tt
closed_kept (o ∷ os) l g (inner {h = h} around d) = behind around (nested_spelled h l d)

-- an atom of one character
char_spelled : (c : ℕ) → IsTrue (is_plain c) → IsSpelled (λ r. c ∷ r) (atom_read (atom.Char c) 1 0)
char_spelled c h = record { atom = λ rest. IsAtom.plain h }

-- a `.`
any_spelled : IsSpelled (λ r. 0x2E ∷ r) (atom_read atom.Any 1 0)
any_spelled = record { atom = λ rest. IsAtom.any refl }

-- a character behind a `\`
pub escaped_spelled : (c : ℕ) → IsTrue (is_escaped c) → IsSpelled (λ r. backslash ∷ c ∷ r) (atom_read (atom.Char c) 1 0)
escaped_spelled c h = record { atom = λ rest. IsAtom.escaped refl h }

-- from where a piece may begin
start_kept : (outer : List LevelRead) (l : LevelRead) (g : Front) (c : ℕ) → Stand outer l g → Kept (λ r. g (c ∷ r)) (start_step outer l c)
start_kept outer l g c d =
    let f : Front = λ r. g (c ∷ r) in
    if_kept f (is_plain c) _ _ (λ h. behind d (char_spelled c h))
    (if_kept f (c == backslash) _ _ (λ h. named g c backslash _ h (at_escape d))
    (if_kept f (c == 0x2E) _ _ (λ h. named g c 0x2E _ h (behind d any_spelled))
    (if_kept f (c == 0x5B) _ _ (λ h. named g c 0x5B _ h (within_class [] d refl))
    (if_kept f (c == 0x28) _ _ (λ h. named g c 0x28 _ h (at_start (open_stand outer l g d)))
    (if_kept f (c == 0x7C) _ _ (λ h. named g c 0x7C _ h (at_start (branch_stand outer l g d)))
    (cond_both (c == 0x29) (closed outer l) None (Kept f) (λ h. subst (λ x. Kept (λ r. g (x ∷ r)) (closed outer l)) (sym (eqb-true c 0x29 h)) (closed_kept outer l g d)) (λ _. tt)))))))

-- from behind an atom
behind_kept : (outer : List LevelRead) (l : LevelRead) (g k : Front) (a : AtomRead) (c : ℕ) → Stand outer l g → IsSpelled k a → Kept (λ r. g (k (c ∷ r))) (behind_step outer l a c)
behind_kept outer l g k a c d s =
    let m : Front = λ r. g (k r) in
    let f : Front = λ r. m (c ∷ r) in
    if_kept f (c == 0x3F) _ _ (λ h. named m c 0x3F _ h (piece_leads outer l g k a (λ r. 0x3F ∷ r) _ _ d s (λ rest. IsQuantifier.optional refl)))
    (if_kept f (c == 0x2A) _ _ (λ h. named m c 0x2A _ h (piece_leads outer l g k a (λ r. 0x2A ∷ r) _ _ d s (λ rest. IsQuantifier.any_number refl)))
    (if_kept f (c == 0x2B) _ _ (λ h. named m c 0x2B _ h (piece_leads outer l g k a (λ r. 0x2B ∷ r) _ _ d s (λ rest. IsQuantifier.some refl)))
    (if_kept f (c == 0x7B) _ _ (λ h. named m c 0x7B _ h (in_least d s no_digits))
    (start_kept outer (once l a) m c (once_stand outer l g k a d s)))))

-- a digit more behind a front
pushed : (f : Front) (ds : List ℕ) (c : ℕ) (s : State) → Leads (λ r. f ((ds ++ c ∷ []) ++ r)) s → Leads (λ r. f (ds ++ c ∷ r)) s
pushed f ds c s h = subst (λ x. Leads x s) (λ i r. f (append_assoc ds (c ∷ []) r i)) h

-- a number, and a `}`
pub exact : (ds : List ℕ) (a : AtomRead) → ds ≢ [] → AreDigits ds → (rest : List ℕ) → IsQuantifier a.size (0x7B ∷ (ds ++ 0x7D ∷ rest)) (between (value_of ds) (Some (value_of ds))) (a.size * max (value_of ds) 1) rest
exact ds a some d rest = IsQuantifier.exactly ds (number_from ds some d) (ap (λ x. 0x7B ∷ x) (sym (append_assoc ds (0x7D ∷ []) rest)))

-- from the digits behind a `{`
least_kept : (outer : List LevelRead) (l : LevelRead) (g k : Front) (a : AtomRead) (ds : List ℕ) (c : ℕ) → Stand outer l g → IsSpelled k a → AreDigits ds
    → Kept (λ r. g (k (0x7B ∷ (ds ++ c ∷ r)))) (least_step outer l a ds c)
least_kept outer l g k a [] c d s e = if_kept (λ r. g (k (0x7B ∷ c ∷ r))) (is_ascii_digit c) _ None (λ h. in_least d s (first_digit c h)) tt
least_kept outer l g k a (n ∷ ns) c d s e =
    let ds : List ℕ = n ∷ ns in
    let m : Front = λ r. g (k (0x7B ∷ (ds ++ r))) in
    let f : Front = λ r. m (c ∷ r) in
    if_kept f (is_ascii_digit c && has_room ds) _ _ (λ h. let both = and_parts _ _ h in pushed (λ r. g (k (0x7B ∷ r))) ds c _ (in_least d s (digit_more ds c e both.0 (room_from ds both.1))))
    (if_kept f (c == 0x2C) _ _ (λ h. named m c 0x2C _ h (in_most ds d s (number_from ds (not_empty n ns) e) no_digits (λ some. absurd (some refl))))
    (if_kept f (c == 0x7D) _ None (λ h. named m c 0x7D _ h (piece_leads outer l g k a (λ r. 0x7B ∷ (ds ++ 0x7D ∷ r)) _ _ d s (exact ds a (not_empty n ns) e))) tt))

-- a number and a `,}`
pub open_bound : (digits : List ℕ) (min : ℕ) (a : AtomRead) → IsNumber digits min → (rest : List ℕ)
    → IsQuantifier a.size (0x7B ∷ (digits ++ 0x2C ∷ 0x7D ∷ rest)) (between min None) (a.size * (min + 1)) rest
open_bound digits min a n rest = IsQuantifier.at_least digits n (ap (λ x. 0x7B ∷ x) (sym (append_assoc digits (0x2C ∷ 0x7D ∷ []) rest)))

-- what stands between the braces, and the rest
four_parts : (xs ys zs rest : List ℕ) → xs ++ ys ++ zs ++ 0x7D ∷ [] ++ rest ≡ xs ++ (ys ++ (zs ++ 0x7D ∷ rest))
four_parts xs ys zs rest = append_assoc (xs ++ ys ++ zs) (0x7D ∷ []) rest ∙ append_assoc (xs ++ ys) zs (0x7D ∷ rest) ∙ append_assoc xs ys (zs ++ 0x7D ∷ rest)

-- two numbers with a `,` between them, and a `}`
pub two_bounds : (digits others : List ℕ) (min most : ℕ) (a : AtomRead) → IsNumber digits min → IsNumber others most → min ≤ most → (rest : List ℕ)
    → IsQuantifier a.size (0x7B ∷ (digits ++ 0x2C ∷ (others ++ 0x7D ∷ rest))) (between min (Some most)) (a.size * max most 1) rest
two_bounds digits others min most a n m within rest =
    IsQuantifier.within digits others n m within (ap (λ x. 0x7B ∷ x) (sym (four_parts digits (0x2C ∷ []) others rest)))

-- a `}` behind them
most_closed_kept : (outer : List LevelRead) (l : LevelRead) (g k : Front) (a : AtomRead) (min : ℕ) (digits ds : List ℕ) → Stand outer l g → IsSpelled k a → IsNumber digits min → AreDigits ds
    → Kept (λ r. g (k (0x7B ∷ (digits ++ 0x2C ∷ (ds ++ 0x7D ∷ r))))) (most_closed outer l a min ds)
most_closed_kept outer l g k a min digits [] d s n e = piece_leads outer l g k a (λ r. 0x7B ∷ (digits ++ 0x2C ∷ 0x7D ∷ r)) _ _ d s (open_bound digits min a n)
most_closed_kept outer l g k a min digits (c ∷ cs) d s n e =
    let ds : List ℕ = c ∷ cs in
    let q : Front = λ r. 0x7B ∷ (digits ++ 0x2C ∷ (ds ++ 0x7D ∷ r)) in
    if_kept (λ r. g (k (q r))) (nat_le min (value_of ds)) _ None
    (λ h. piece_leads outer l g k a q _ _ d s (two_bounds digits ds min (value_of ds) a n (number_from ds (not_empty c cs) e) (leb-true min (value_of ds) h))) tt

-- from the digits behind a `,`
most_kept : (outer : List LevelRead) (l : LevelRead) (g k : Front) (a : AtomRead) (min : ℕ) (digits ds : List ℕ) (c : ℕ) → Stand outer l g → IsSpelled k a → IsNumber digits min → AreDigits ds
    → Kept (λ r. g (k (0x7B ∷ (digits ++ 0x2C ∷ (ds ++ c ∷ r))))) (most_step outer l a min ds c)
most_kept outer l g k a min digits ds c d s n e =
    let m : Front = λ r. g (k (0x7B ∷ (digits ++ 0x2C ∷ (ds ++ r)))) in
    let f : Front = λ r. m (c ∷ r) in
    if_kept f (is_ascii_digit c && has_room ds && may_reach min (ds ++ c ∷ [])) _ _ (λ h.
    let some = and_parts _ _ h in
    let both = and_parts _ _ some.0 in
    pushed (λ r. g (k (0x7B ∷ (digits ++ 0x2C ∷ r)))) ds c _ (in_most digits d s n (digit_more ds c e both.0 (room_from ds both.1)) (λ _. some.1)))
    (cond_both (c == 0x7D) (most_closed outer l a min ds) None (Kept f) (λ h. subst (λ x. Kept (λ r. m (x ∷ r)) (most_closed outer l a min ds)) (sym (eqb-true c 0x7D h))
    (most_closed_kept outer l g k a min digits ds d s n e)) (λ _. tt))

-- what closes a class makes an atom
class_spelled : (front : List ℕ) (c : ℕ) (at r : ClassReader) → class_run new_class front ≡ Some at → class_step at c ≡ (taken.Whole, r) → IsSpelled (λ rest. 0x5B ∷ (front ++ c ∷ rest)) (class_atom r)
class_spelled front c at r run whole = record { atom = λ rest. IsAtom.class refl (class_sound front c at r run whole rest) }

-- from within a class
class_kept : (outer : List LevelRead) (l : LevelRead) (g : Front) (front : List ℕ) (c : ℕ) (at : ClassReader) → Stand outer l g → class_run new_class front ≡ Some at
    → (t : ClassTaken) (r : ClassReader) → class_step at c ≡ (t, r) → Kept (λ r. g (0x5B ∷ (front ++ c ∷ r))) (in_class outer l t r)
class_kept outer l g front c at d run taken.More r e = pushed (λ r. g (0x5B ∷ r)) front c _ (within_class (front ++ c ∷ []) d (class_run_more front c new_class at r run e))
class_kept outer l g front c at d run taken.Whole r e = behind d (class_spelled front c at r run e)
class_kept outer l g front c at d run taken.Misfit r e = tt

-- a step keeps it
step_kept : (f : Front) (s : State) (c : ℕ) → Leads f s → Kept (λ r. f (c ∷ r)) (step s c)
step_kept f s c (at_start {outer = outer} {l = l} {g = g} d) = start_kept outer l g c d
step_kept f s c (behind {outer = outer} {l = l} {g = g} {k = k} {a = a} d e) = behind_kept outer l g k a c d e
step_kept f s c (at_escape {outer = outer} {l = l} {g = g} d) = if_kept (λ r. g (backslash ∷ c ∷ r)) (is_escaped c) _ None (λ h. behind d (escaped_spelled c h)) tt
step_kept f s c (in_least {outer = outer} {l = l} {g = g} {k = k} {a = a} {ds = ds} d e few) = least_kept outer l g k a ds c d e few
step_kept f s c (in_most {outer = outer} {l = l} {g = g} {k = k} {a = a} {min = min} {ds = ds} digits d e n few reach) = most_kept outer l g k a min digits ds c d e n few
step_kept f s c (within_class {outer = outer} {l = l} {g = g} {at = at} front d run) = class_kept outer l g front c at d run (class_step at c).0 (class_step at c).1 refl

-- a step and those behind it
then_kept : (f : Front) (cs : List ℕ) (o : Option State) → Kept f o → ((s : State) → Leads f s → Kept (λ r. f (cs ++ r)) (after s cs))
    → Kept (λ r. f (cs ++ r)) (option_and_then (λ next. after next cs) o)
then_kept f cs None d later = tt
then_kept f cs (Some s) d later = later s d

-- and so do several
after_kept : (f : Front) (s : State) (cs : List ℕ) → Leads f s → Kept (λ r. f (cs ++ r)) (after s cs)
after_kept f s [] d = d
after_kept f s (c ∷ cs) d = then_kept (λ r. f (c ∷ r)) cs (step s c) (step_kept f s c d) (λ t e. after_kept (λ r. f (c ∷ r)) t cs e)

-- the characters that led to a state
pub after_leads : (cs : List ℕ) (s : State) → after new_state cs ≡ Some s → Leads (λ r. cs ++ r) s
after_leads cs s e = subst (λ o. Kept (λ r. cs ++ r) o) e (after_kept (λ r. r) new_state cs (at_start new_stand))

-- where the text ends in a state that it may end in
abbrev SpellsEnded : List ℕ → Option LevelRead → Type 0
SpellsEnded cs None = Unit {0}
SpellsEnded cs (Some l) = Spells cs (regex_of l) l.size l.levels

-- what led to it is a spelling
whole_at : (f : Front) (s : State) → Leads f s → SpellsEnded (f []) (ended s)
whole_at f s (at_start {l = l} {g = g} (lowest d)) = level_whole g l d []
whole_at f s (behind {l = l} {g = g} {k = k} {a = a} (lowest d) e) =
    level_whole (λ r. g (k r)) (once l a) (piece_continues g k (λ r. r) l a (between 1 (Some 1)) a.size d e (λ rest. IsQuantifier.once)) []
whole_at f s (at_escape (lowest d)) = tt
whole_at f s (in_least (lowest d) e few) = tt
whole_at f s (in_most digits (lowest d) e n few reach) = tt
whole_at f s (within_class front (lowest d) run) = tt
whole_at f s d = tt

-- what is read is spelled
pub sound : (cs : List ℕ) (s : State) (l : LevelRead) → after new_state cs ≡ Some s → ended s ≡ Some l → Spells cs (regex_of l) l.size l.levels
sound cs s l e end =
    subst (λ ds. Spells ds (regex_of l) l.size l.levels) (append-nil cs) (subst (λ o. SpellsEnded (cs ++ []) o) end (whole_at (λ r. cs ++ r) s (after_leads cs s e)))

-- a step before
more_then : (c : ℕ) (cs : List ℕ) (o : Option State) → ((s : State) → after s (cs ++ c ∷ []) ≡ option_and_then (λ next. step next c) (after s cs))
    → option_and_then (λ next. after next (cs ++ c ∷ [])) o ≡ option_and_then (λ next. step next c) (option_and_then (λ next. after next cs) o)
more_then c cs None h = refl
more_then c cs (Some s) h = h s

-- the last step
one_more : (o : Option State) → option_and_then (λ next. after next []) o ≡ o
one_more None = refl
one_more (Some s) = refl

-- one character more
pub after_more : (cs : List ℕ) (c : ℕ) (s : State) → after s (cs ++ c ∷ []) ≡ option_and_then (λ next. step next c) (after s cs)
after_more [] c s = one_more (step s c)
after_more (x ∷ cs) c s = more_then c cs (step s x) (λ t. after_more cs c t)
