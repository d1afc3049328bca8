-- How often an atom stands is read as it is spelled.
use Rattle.std.proofs.Common.{◌≡◌, ℕ, ◌*◌, ◌≤◌, true, false, List, [], ◌∷◌, ◌++◌, length, max, Some, refl, sym, ap, subst, ◌∙◌, append_assoc, append-nil, arith, length-append, codes}
use Rattle.std.proofs.lemmas.Bool.{and_parts, le-leb}
use Rattle.std.proofs.lemmas.Bool.Decides.{nat_tests}
use Rattle.std.specs.Char.{is_ascii_digit}
use Rattle.std.specs.List.{list_all}
use Rattle.std.specs.Prelude.{◌==◌, nat_le}
use Rattle.rng_types.specs.declared.bounds.Bounds.{Bounds}
use Rattle.rng_dialect.specs.Class.{is_one_of}
use Rattle.rng_dialect.specs.Dialect.{IsNumber, IsQuantifier, once, optional, any_number, some, exactly, at_least, within, between}
use Rattle.rng_dialect.specs.Reading.{AtomRead, LevelRead, Start, Behind, Least, Most, state_at, with_piece, once as once_read, reads, value_of, has_room, may_reach}
use Rattle.rng_dialect.proofs.Reaching.{room, reaches}

-- what comes next is no quantifier
abbrev pub NotQuantifier : List ℕ → Type 0
NotQuantifier [] = Unit
NotQuantifier (c ∷ cs) = is_one_of (codes "?*+{") c ≡ false

-- it is none of the four
no_quantifier : (c : ℕ) → is_one_of (codes "?*+{") c ≡ false → ((c == 0x3F) ≡ false) × ((c == 0x2A) ≡ false) × ((c == 0x2B) ≡ false) × ((c == 0x7B) ≡ false)
no_quantifier c h = grind (arith, nat_tests)

-- what may stand behind an atom is taken as where a piece may begin, with the atom once
pub behind_start : (outer : List LevelRead) (l : LevelRead) (a : AtomRead) (ds : List ℕ) → NotQuantifier ds
    → reads (state_at outer l (Behind a)) ds ≡ reads (state_at outer (once_read l a) Start) ds
behind_start [] l a [] h = refl
behind_start (o ∷ os) l a [] h = refl
behind_start outer l a (c ∷ cs) h = let n = no_quantifier c h in rw (n.0, n.1, n.2, n.3)

-- digits of the least number, one after another
least_digits : (outer : List LevelRead) (l : LevelRead) (a : AtomRead) (digits more rest : List ℕ) → length (digits ++ more) ≤ 4 → list_all is_ascii_digit more ≡ true
    → reads (state_at outer l (Least a digits)) (more ++ rest) ≡ reads (state_at outer l (Least a (digits ++ more))) rest
least_digits outer l a digits [] rest h d = ap (λ xs. reads (state_at outer l (Least a xs)) rest) (sym (append-nil digits))
least_digits outer l a [] (c ∷ more) rest h d =
    let p = and_parts (is_ascii_digit c) (list_all is_ascii_digit more) d in
    rw p.0 (least_digits outer l a (c ∷ []) more rest h p.1)
least_digits outer l a (e ∷ digits) (c ∷ more) rest h d =
    let p = and_parts (is_ascii_digit c) (list_all is_ascii_digit more) d in
    let r : has_room (e ∷ digits) ≡ true = room (e ∷ digits) (omega (arith, length-append (e ∷ digits) (c ∷ more))) in
    let j : ((e ∷ digits) ++ c ∷ []) ++ more ≡ (e ∷ digits) ++ c ∷ more = append_assoc (e ∷ digits) (c ∷ []) more in
    let few : length (((e ∷ digits) ++ c ∷ []) ++ more) ≤ 4 = subst (λ xs. length xs ≤ 4) (sym j) h in
    rw (p.0, r) (least_digits outer l a ((e ∷ digits) ++ c ∷ []) more rest few p.1 ∙ ap (λ xs. reads (state_at outer l (Least a xs)) rest) j)

-- digits of the greatest number, one after another
most_digits : (outer : List LevelRead) (l : LevelRead) (a : AtomRead) (min : ℕ) (digits more rest : List ℕ) → length (digits ++ more) ≤ 4 → list_all is_ascii_digit more ≡ true
    → min ≤ value_of (digits ++ more)
    → reads (state_at outer l (Most a min digits)) (more ++ rest) ≡ reads (state_at outer l (Most a min (digits ++ more))) rest
most_digits outer l a min digits [] rest h d m = ap (λ xs. reads (state_at outer l (Most a min xs)) rest) (sym (append-nil digits))
most_digits outer l a min digits (c ∷ more) rest h d m =
    let p = and_parts (is_ascii_digit c) (list_all is_ascii_digit more) d in
    let r : has_room digits ≡ true = room digits (omega (arith, length-append digits (c ∷ more))) in
    let j : (digits ++ c ∷ []) ++ more ≡ digits ++ c ∷ more = append_assoc digits (c ∷ []) more in
    let few : length ((digits ++ c ∷ []) ++ more) ≤ 4 = subst (λ xs. length xs ≤ 4) (sym j) h in
    let least : min ≤ value_of ((digits ++ c ∷ []) ++ more) = subst (λ xs. min ≤ value_of xs) (sym j) m in
    let f : may_reach min (digits ++ c ∷ []) ≡ true = reaches min (digits ++ c ∷ []) more few p.1 least in
    rw (p.0, r, f) (most_digits outer l a min (digits ++ c ∷ []) more rest few p.1 least ∙ ap (λ xs. reads (state_at outer l (Most a min xs)) rest) j)

-- a `}` behind the least number says that it is the greatest too
least_closed : (outer : List LevelRead) (l : LevelRead) (a : AtomRead) (digits rest : List ℕ) (n : ℕ) → IsNumber digits n
    → reads (state_at outer l (Least a digits)) (0x7D ∷ rest) ≡ reads (state_at outer (with_piece l a (between n (Some n)) (a.size * max n 1)) Start) rest
least_closed outer l a [] rest n d = absurd (d.some refl)
least_closed outer l a (c ∷ digits) rest n d = ap (λ v. reads (state_at outer (with_piece l a (between v (Some v)) (a.size * max v 1)) Start) rest) (sym d.value)

-- a `,` ends it
least_ended : (outer : List LevelRead) (l : LevelRead) (a : AtomRead) (digits rest : List ℕ) (n : ℕ) → IsNumber digits n
    → reads (state_at outer l (Least a digits)) (0x2C ∷ rest) ≡ reads (state_at outer l (Most a n [])) rest
least_ended outer l a [] rest n d = absurd (d.some refl)
least_ended outer l a (c ∷ digits) rest n d = ap (λ v. reads (state_at outer l (Most a v [])) rest) (sym d.value)

-- a `}` ends the greatest number
most_ended : (outer : List LevelRead) (l : LevelRead) (a : AtomRead) (min : ℕ) (digits rest : List ℕ) (n : ℕ) → IsNumber digits n → min ≤ n
    → reads (state_at outer l (Most a min digits)) (0x7D ∷ rest) ≡ reads (state_at outer (with_piece l a (between min (Some n)) (a.size * max n 1)) Start) rest
most_ended outer l a min [] rest n d m = absurd (d.some refl)
most_ended outer l a min (c ∷ digits) rest n d m =
    let e : nat_le min (value_of (c ∷ digits)) ≡ true = le-leb min (value_of (c ∷ digits)) (subst (λ v. min ≤ v) d.value m) in
    rw e (ap (λ v. reads (state_at outer (with_piece l a (between min (Some v)) (a.size * max v 1)) Start) rest) (sym d.value))

-- the least number, with what comes after it
least_read : (outer : List LevelRead) (l : LevelRead) (a : AtomRead) (cs digits rest : List ℕ) (n : ℕ) → IsNumber digits n → cs ≡ 0x7B ∷ (digits ++ rest)
    → reads (state_at outer l (Behind a)) cs ≡ reads (state_at outer l (Least a digits)) rest
least_read outer l a cs digits rest n d e = rw e (least_digits outer l a [] digits rest d.few d.are_digits)

-- joined lists, with the parentheses to the right
joined : (xs bs cs ds es : List ℕ) → (((xs ++ bs) ++ cs) ++ ds) ++ es ≡ xs ++ (bs ++ (cs ++ (ds ++ es)))
joined xs bs cs ds es = simp append_assoc

-- what a quantifier says is read
pub quantifier_read : (outer : List LevelRead) (l : LevelRead) (a : AtomRead) (cs : List ℕ) (bounds : Bounds) (size : ℕ) (rest : List ℕ) → IsQuantifier a.size cs bounds size rest
    → NotQuantifier rest → reads (state_at outer l (Behind a)) cs ≡ reads (state_at outer (with_piece l a bounds size) Start) rest
quantifier_read outer l a cs bounds size rest once n = behind_start outer l a cs n
quantifier_read outer l a cs bounds size rest (optional e) n = rw e
quantifier_read outer l a cs bounds size rest (any_number e) n = rw e
quantifier_read outer l a cs bounds size rest (some e) n = rw e
quantifier_read outer l a cs bounds size rest (exactly {n = v} digits d e) n =
    least_read outer l a cs digits (0x7D ∷ rest) v d (e ∙ ap (λ xs. 0x7B ∷ xs) (append_assoc digits (0x7D ∷ []) rest)) ∙ least_closed outer l a digits rest v d
quantifier_read outer l a cs bounds size rest (at_least {n = v} digits d e) n =
    least_read outer l a cs digits (0x2C ∷ 0x7D ∷ rest) v d (e ∙ ap (λ xs. 0x7B ∷ xs) (append_assoc digits (0x2C ∷ 0x7D ∷ []) rest)) ∙ least_ended outer l a digits (0x7D ∷ rest) v d
quantifier_read outer l a cs bounds size rest (within {n = v} {m = w} digits others d o m e) n =
    let most : reads (state_at outer l (Most a v [])) (others ++ 0x7D ∷ rest) ≡ reads (state_at outer l (Most a v others)) (0x7D ∷ rest) =
    most_digits outer l a v [] others (0x7D ∷ rest) o.few o.are_digits (subst (λ x. v ≤ x) o.value m) in
    let parts : cs ≡ 0x7B ∷ (digits ++ 0x2C ∷ (others ++ 0x7D ∷ rest)) = e ∙ ap (λ xs. 0x7B ∷ xs) (joined digits (0x2C ∷ []) others (0x7D ∷ []) rest) in
    least_read outer l a cs digits (0x2C ∷ (others ++ 0x7D ∷ rest)) v d parts ∙ least_ended outer l a digits (others ++ 0x7D ∷ rest) v d ∙ most ∙ most_ended outer l a v others rest w o m
