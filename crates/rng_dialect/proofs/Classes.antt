-- The machine of classes reads what the grammar says: each class is read, what is read is a class, and what is begun can be closed.
use Rattle.std.proofs.Common.{◌≡◌, ℕ, ◌≤◌, Bool, false, true, ◌==◌, ◌&&◌, nat_le, if◌then◌else◌, List, [], ◌∷◌, ◌++◌, Some, None, refl, sym, ap, ◌∙◌, subst, arith, append_assoc, append-nil, codes}
use Rattle.std.proofs.lemmas.Bool.{and_parts, le-leb, leb-true, eqb-true, eqb-false, ne_eqb, cond_both}
use Rattle.std.proofs.lemmas.Bool.Decides.{nat_tests}
use Rattle.rng_dialect.specs.Class.{AreListed, AreMembers, BeginsWithSign, IsClass, IsClosed, IsMember, IsSingle, backslash, hyphen, is_escaped, is_plain_member, sign}
use Rattle.rng_dialect.specs.Class.AreListed.{members, one_hyphen, two_hyphens, first_hyphen}
use Rattle.rng_dialect.specs.Class.AreMembers.{last, last_hyphen, more}
use Rattle.rng_dialect.specs.Class.IsClass.{of_members, of_others}
use Rattle.rng_dialect.specs.Class.IsClosed.{closed}
use Rattle.rng_dialect.specs.Class.IsMember.{single, range}
use Rattle.rng_dialect.specs.Class.IsSingle.{plain, escaped}
use Rattle.rng_dialect.specs.ClassReading.{begins_member, class_read, class_run, class_step, closing, first_step, goes_on, last_escaped, new_class, reader_at, step_at}
use Rattle.rng_dialect.specs.declared.class.ClassPlace.{ClassPlace}
use Rattle.rng_dialect.specs.declared.class.ClassPlace.TheVariants as places
use Rattle.rng_dialect.specs.declared.class.ClassReader.{ClassReader}
use Rattle.rng_dialect.specs.declared.class.ClassTaken.{ClassTaken}
use Rattle.rng_dialect.specs.declared.class.ClassTaken.TheVariants as taken
use Rattle.rng_dialect.specs.declared.regex.Member.{Member}
use Rattle.rng_dialect.specs.declared.regex.Member.TheVariants as member

-- a plain character is neither what closes the class, nor a `-`, nor a `\`
plain_apart : (c : ℕ) → is_plain_member c ≡ true → ((c == closing) ≡ false) × ((c == hyphen) ≡ false) × ((c == backslash) ≡ false)
plain_apart c p = grind (arith, nat_tests)

-- what is no greater than an escaped character is no greater than the last of them
escaped_low : (low c : ℕ) → is_escaped c ≡ true → low ≤ c → low ≤ last_escaped
escaped_low low c p le = grind (arith, nat_tests)

-- Each class is read.

-- from the reader on the characters are read as the rest of a class
record Reads (at : ClassReader) (cs : List ℕ) (negated : Bool) (ms : List Member) (rest : List ℕ) : Type 0 where
  reader : ClassReader
  reads : class_read at cs ≡ Some (reader, rest)
  same : reader.negated ≡ negated
  all : reader.members ≡ ms

-- with the first of the characters a member may begin, behind the members
abbrev Begins : ClassReader → Bool → List Member → List ℕ → Type 0
Begins at negated ms cs = (c : ℕ) (ds : List ℕ) → cs ≡ c ∷ ds → (c == closing) ≡ false → (c == hyphen) ≡ false → class_step at c ≡ begins_member at negated ms c

-- the last of the members has been read, which may be a character that begins a range
record Behind (at : ClassReader) (negated : Bool) (ms : List Member) : Type 0 where
  closes : (rest : List ℕ) → Reads at (closing ∷ rest) negated ms rest
  hyphen_closes : (rest : List ℕ) → Reads at (hyphen ∷ closing ∷ rest) negated (ms ++ member.Char hyphen ∷ []) rest
  begins : (cs : List ℕ) → Begins at negated ms cs

-- a character that may begin a range
behind_single : (negated : Bool) (ms : List Member) (d : ℕ) → Behind (reader_at negated ms (places.Single d)) negated (ms ++ member.Char d ∷ [])
behind_single negated ms d = record {
  closes = λ rest. record { reader = _; reads = refl; same = refl; all = refl };
  hyphen_closes = λ rest. record { reader = _; reads = refl; same = refl; all = sym (append_assoc ms (member.Char d ∷ []) (member.Char hyphen ∷ [])) };
  begins = λ cs c ds e a b. rw (a, b) refl;
}

-- any other member
behind_between : (negated : Bool) (ms : List Member) → Behind (reader_at negated ms places.Between) negated ms
behind_between negated ms = record {
  closes = λ rest. record { reader = _; reads = refl; same = refl; all = refl };
  hyphen_closes = λ rest. record { reader = _; reads = refl; same = refl; all = refl };
  begins = λ cs c ds e a b. rw (a, b) refl;
}

-- a single character is read where a member may begin
single_read : {cs rest : List ℕ} {c : ℕ} (at : ClassReader) (negated : Bool) (ms : List Member) → IsSingle cs c rest → Begins at negated ms cs
    → class_read at cs ≡ class_read (reader_at negated ms (places.Single c)) rest
single_read at negated ms (plain {c} {rest} p) b = let apart = plain_apart c p in rw (b c rest refl apart.0 apart.1, p) refl
single_read at negated ms (escaped {b} {c} {rest} e p) begins = rw (e, begins backslash (c ∷ rest) (ap (λ x. x ∷ c ∷ rest) e) refl refl, p) refl

-- and behind a `-`, where a range ends
high_read : {cs rest : List ℕ} {h high : ℕ} (negated : Bool) (ms : List Member) (low : ℕ) → h ≡ hyphen → IsSingle cs high rest → low ≤ high
    → class_read (reader_at negated ms (places.Single low)) (h ∷ cs) ≡ class_read (reader_at negated (ms ++ member.Range low high ∷ []) places.Between) rest
high_read negated ms low g (plain {c} p) le = rw (g, (plain_apart c p).0, p, le-leb low c le) refl
high_read negated ms low g (escaped {b} {c} e p) le = rw (g, e, le-leb low last_escaped (escaped_low low c p le), p, le-leb low c le) refl

-- the reader goes on from another place
read_on : {at next : ClassReader} {cs ds rest : List ℕ} {negated : Bool} {ms : List Member} → class_read at cs ≡ class_read next ds → Reads next ds negated ms rest → Reads at cs negated ms rest
read_on e h = record { reader = h.reader; reads = e ∙ h.reads; same = h.same; all = h.all }

-- a member is read, and then what is read behind it
member_read : {cs ds : List ℕ} {m : Member} {at : ClassReader} {negated : Bool} (ms : List Member) {all : List Member} {rest : List ℕ} → IsMember cs m ds → Begins at negated ms cs
    → ((next : ClassReader) → Behind next negated (ms ++ m ∷ []) → Reads next ds negated all rest) → Reads at cs negated all rest
member_read ms (single s) b later = read_on (single_read _ _ _ s b) (later _ (behind_single _ _ _))
member_read ms (range s e t le) b later = read_on (single_read _ _ _ s b ∙ high_read _ _ _ e t le) (later _ (behind_between _ _))

-- behind a member the class may be closed
closed_read : {at : ClassReader} {cs : List ℕ} {negated : Bool} {ms : List Member} {rest : List ℕ} → Behind at negated ms → IsClosed cs rest → Reads at cs negated ms rest
closed_read b (closed {rest = rest} e) = rw e (b.closes rest)

-- also behind a last `-`
hyphen_read : {at : ClassReader} {cs : List ℕ} {h : ℕ} {negated : Bool} {ms : List Member} {rest : List ℕ} → Behind at negated ms → h ≡ hyphen → IsClosed cs rest
    → Reads at (h ∷ cs) negated (ms ++ member.Char hyphen ∷ []) rest
hyphen_read b e (closed {rest = rest} f) = rw (e, f) (b.hyphen_closes rest)

-- members are read
members_read : {cs rest : List ℕ} {ns : List Member} (at : ClassReader) (negated : Bool) (ms : List Member) → AreMembers cs ns rest → Begins at negated ms cs → Reads at cs negated (ms ++ ns) rest
members_read at negated ms (last m e) b = member_read ms m b (λ next h. closed_read h e)
members_read at negated ms (last_hyphen {m = m} i h e) b = member_read ms i b (λ next k. rw (← append_assoc ms (m ∷ []) (member.Char hyphen ∷ [])) (hyphen_read k h e))
members_read at negated ms (more {m = m} {ms = ns} i are) b =
    member_read ms i b (λ next k. rw (← append_assoc ms (m ∷ []) ns) (members_read next negated (ms ++ m ∷ []) are (k.begins _)))

-- the reader stands before the first member
abbrev IsFirst : ClassReader → List ℕ → Type 0
IsFirst at cs = (c : ℕ) (ds : List ℕ) → cs ≡ c ∷ ds → class_step at c ≡ first_step at at.negated [] c

-- which a `-` may be
first_hyphen_read : (at : ClassReader) {h : ℕ} {cs : List ℕ} → IsFirst at (h ∷ cs) → h ≡ hyphen → class_read at (h ∷ cs) ≡ class_read (reader_at at.negated (member.Char hyphen ∷ []) places.Between) cs
first_hyphen_read at {h = h} {cs = cs} f e = rw (f h cs refl, e) refl

-- all that stands between the sign and the end is read
listed_read : {cs rest : List ℕ} {ms : List Member} (at : ClassReader) → IsFirst at cs → AreListed cs ms rest → Reads at cs at.negated ms rest
listed_read at f (members are) = members_read at at.negated [] are (λ c ds e a h. f c ds e ∙ rw h refl)
listed_read at f (one_hyphen e close) = read_on (first_hyphen_read at f e) (closed_read (behind_between _ _) close)
listed_read at f (two_hyphens e g close) = read_on (first_hyphen_read at f e) (hyphen_read (behind_between _ _) g close)
listed_read at f (first_hyphen e are) = read_on (first_hyphen_read at f e) (members_read _ _ _ are ((behind_between _ _).begins _))

-- each class is read, with its members
pub class_complete : (cs rest : List ℕ) (negated : Bool) (ms : List Member) → IsClass cs negated ms rest → (r : ClassReader) × (class_read new_class cs ≡ Some (r, rest)) × (r.negated ≡ negated) × (r.members ≡ ms)
class_complete cs rest negated ms k = let done = class_reads k in (done.reader, done.reads, done.same, done.all)
  where
    no_sign : (cs : List ℕ) → (BeginsWithSign cs → ⊥) → IsFirst new_class cs
    no_sign cs apart c ds e = rw (ne_eqb c sign (λ is_sign. apart (rw e is_sign))) refl

    class_reads : {cs rest : List ℕ} {negated : Bool} {ms : List Member} → IsClass cs negated ms rest → Reads new_class cs negated ms rest
    class_reads (of_members apart are) = listed_read new_class (no_sign _ apart) are
    class_reads (of_others e are) = rw e (read_on refl (listed_read (reader_at true [] places.First) (λ c ds e. refl) are))

-- What is read is a class.

-- at a place the characters cs end a class before the rest: with those right before the place they spell the members ns, its last ones
abbrev IsTail : ClassPlace → List ℕ → List Member → List ℕ → Type 0
IsTail places.Sign cs ns rest = AreListed cs ns rest
IsTail places.First cs ns rest = AreListed cs ns rest
IsTail (places.Single d) cs ns rest = (s : List ℕ) → IsSingle s d cs → AreMembers s ns rest
IsTail (places.Hyphen low) cs ns rest = (s : List ℕ) (h : ℕ) → IsSingle s low (h ∷ cs) → h ≡ hyphen → AreMembers s ns rest
IsTail places.Between cs ns rest = ((s : List ℕ) (m : Member) → IsMember s m cs → AreMembers s (m ∷ ns) rest) × ((h : ℕ) → h ≡ hyphen → AreListed (h ∷ cs) (member.Char hyphen ∷ ns) rest)
IsTail places.LastHyphen cs ns rest = (ns ≡ []) × IsClosed cs rest
IsTail places.Escape cs ns rest = (b : ℕ) → b ≡ backslash → AreMembers (b ∷ cs) ns rest
IsTail (places.EscapeTo low) cs ns rest = (s : List ℕ) (h b : ℕ) → IsSingle s low (h ∷ b ∷ cs) → h ≡ hyphen → b ≡ backslash → AreMembers s ns rest

-- at a place, behind members, the characters end the class that r has read
record EndsFrom (negated : Bool) (ms : List Member) (place : ClassPlace) (cs : List ℕ) (r : ClassReader) (rest : List ℕ) : Type 0 where
  same : r.negated ≡ negated
  added : List Member
  all : r.members ≡ ms ++ added
  tail : IsTail place cs added rest

-- the same where the sign may still come
abbrev EndsAt : Bool → List Member → ClassPlace → List ℕ → ClassReader → List ℕ → Type 0
EndsAt negated ms places.Sign cs r rest = negated ≡ false → ms ≡ [] → IsClass cs r.negated r.members rest
EndsAt negated ms place cs r rest = EndsFrom negated ms place cs r rest

-- what a step tells: one that goes on takes each end of a class back over its character, and one that closes the class is such an end
abbrev Explains : Bool → List Member → ClassPlace → ℕ → ClassTaken × ClassReader → Type 0
Explains negated ms place c (taken.More, next) = (cs : List ℕ) (r : ClassReader) (rest : List ℕ) → EndsAt next.negated next.members next.place cs r rest → EndsAt negated ms place (c ∷ cs) r rest
Explains negated ms place c (taken.Whole, r) = (rest : List ℕ) → EndsAt negated ms place (c ∷ rest) r rest
Explains negated ms place c (taken.Misfit, r) = Unit {0}

-- an end one character earlier, with as many members, or with one more
module _ {negated : Bool} {ms : List Member} {place next : ClassPlace} {c : ℕ} {cs : List ℕ} {r : ClassReader} {rest : List ℕ} where
  goes : (h : EndsFrom negated ms next cs r rest) → IsTail place (c ∷ cs) h.added rest → EndsFrom negated ms place (c ∷ cs) r rest
  goes h t = record { same = h.same; added = h.added; all = h.all; tail = t }

  adds : (m : Member) (h : EndsFrom negated (ms ++ m ∷ []) next cs r rest) → IsTail place (c ∷ cs) (m ∷ h.added) rest → EndsFrom negated ms place (c ∷ cs) r rest
  adds m h t = record { same = h.same; added = m ∷ h.added; all = h.all ∙ append_assoc ms (m ∷ []) h.added; tail = t }

-- the first character of a member
begun : (old : ClassReader) (negated : Bool) (ms others : List Member) (place : ClassPlace) (c : ℕ)
    → ((next : ClassPlace) (cs : List ℕ) (r : ClassReader) (rest : List ℕ) (h : EndsFrom negated others next cs r rest) → AreMembers (c ∷ cs) h.added rest → EndsAt negated ms place (c ∷ cs) r rest)
    → Explains negated ms place c (begins_member old negated others c)
begun old negated ms others place c ends =
    cond_both (is_plain_member c) _ _ (λ o. Explains negated ms place c (goes_on old negated others o))
    (λ p cs r rest h. ends _ cs r rest h (h.tail (c ∷ cs) (plain p)))
    (λ _. cond_both (c == backslash) _ _ (λ o. Explains negated ms place c (goes_on old negated others o)) (λ e cs r rest h. ends _ cs r rest h (h.tail c (eqb-true c backslash e))) (λ _. tt))

-- the first member
first_begun : (old : ClassReader) (negated : Bool) (ms : List Member) (c : ℕ) → Explains negated ms places.First c (first_step old negated ms c)
first_begun old negated ms c =
    cond_both (c == hyphen) _ _ (Explains negated ms places.First c)
    (λ e cs r rest h. adds (member.Char hyphen) h (h.tail.1 c (eqb-true c hyphen e)))
    (λ _. begun old negated ms ms places.First c (λ next cs r rest h are. goes h (members are)))

-- an end that begins with another character than the sign is a class
unsigned : (negated : Bool) (ms : List Member) (c : ℕ) (cs : List ℕ) (r : ClassReader) (rest : List ℕ) → (c ≡ sign → ⊥) → EndsFrom negated ms places.First (c ∷ cs) r rest → EndsAt negated ms places.Sign (c ∷ cs) r rest
unsigned negated ms c cs r rest apart h positive is_empty = rw (h.same ∙ positive, h.all ∙ ap (λ xs. xs ++ h.added) is_empty) (of_members apart h.tail)

-- and so is what a step makes of it
without_sign : (negated : Bool) (ms : List Member) (c : ℕ) (p : ClassTaken × ClassReader) → (c ≡ sign → ⊥) → Explains negated ms places.First c p → Explains negated ms places.Sign c p
without_sign negated ms c (taken.More, next) apart f = λ cs r rest h. unsigned negated ms c cs r rest apart (f cs r rest h)
without_sign negated ms c (taken.Whole, r) apart f = λ rest. unsigned negated ms c rest r rest apart (f rest)
without_sign negated ms c (taken.Misfit, r) apart f = tt

-- each step of the reader
explained : (old : ClassReader) (negated : Bool) (ms : List Member) (place : ClassPlace) (c : ℕ) → Explains negated ms place c (step_at old negated ms place c)
explained old negated ms places.Sign c =
    cond_both (c == sign) _ _ (Explains negated ms places.Sign c)
    (λ e cs r rest h positive is_empty. rw (h.same, h.all ∙ ap (λ xs. xs ++ h.added) is_empty) (of_others (eqb-true c sign e) h.tail))
    (λ e. without_sign negated ms c _ (eqb-false c sign e) (first_begun old negated ms c))
explained old negated ms places.First c = first_begun old negated ms c
explained old negated ms (places.Single d) c =
    cond_both (c == closing) _ _ (Explains negated ms (places.Single d) c)
    (λ e rest. record { same = refl; added = member.Char d ∷ []; all = refl; tail = λ s i. last (single i) (closed (eqb-true c closing e)) })
    (λ _. cond_both (c == hyphen) _ _ (Explains negated ms (places.Single d) c)
    (λ e cs r rest h. goes h (λ s i. h.tail s c i (eqb-true c hyphen e)))
    (λ _. begun old negated ms (ms ++ member.Char d ∷ []) (places.Single d) c (λ next cs r rest h are. adds (member.Char d) h (λ s i. more (single i) are))))
explained old negated ms (places.Hyphen low) c =
    cond_both (c == closing) _ _ (Explains negated ms (places.Hyphen low) c)
    (λ e rest. record { same = refl; added = member.Char low ∷ member.Char hyphen ∷ []; all = refl; tail = λ s h i k. last_hyphen (single i) k (closed (eqb-true c closing e)) })
    (λ _. cond_both (is_plain_member c && nat_le low c) _ _ (Explains negated ms (places.Hyphen low) c)
    (λ e cs r rest k. let both = and_parts (is_plain_member c) (nat_le low c) e in
    adds (member.Range low c) k (λ s h i g. k.tail.0 s (member.Range low c) (range i g (plain both.0) (leb-true low c both.1))))
    (λ _. cond_both (c == backslash && nat_le low last_escaped) _ _ (Explains negated ms (places.Hyphen low) c)
    (λ e cs r rest k. goes k (λ s h i g. k.tail s h c i g (eqb-true c backslash (and_parts (c == backslash) (nat_le low last_escaped) e).0)))
    (λ _. tt)))
explained old negated ms places.Between c =
    cond_both (c == closing) _ _ (Explains negated ms places.Between c)
    (λ e rest. record { same = refl; added = []; all = sym (append-nil ms); tail = (λ s m i. last i (closed (eqb-true c closing e)), λ h g. one_hyphen g (closed (eqb-true c closing e))) })
    (λ _. cond_both (c == hyphen) _ _ (Explains negated ms places.Between c)
    (λ e cs r rest k. adds (member.Char hyphen) k (rw k.tail.0 (λ s m i. last_hyphen i (eqb-true c hyphen e) k.tail.1, λ h g. two_hyphens g (eqb-true c hyphen e) k.tail.1)))
    (λ _. begun old negated ms ms places.Between c (λ next cs r rest k are. goes k (λ s m i. more i are, λ h g. first_hyphen g are))))
explained old negated ms places.LastHyphen c =
    cond_both (c == closing) _ _ (Explains negated ms places.LastHyphen c)
    (λ e rest. record { same = refl; added = []; all = sym (append-nil ms); tail = (refl, closed (eqb-true c closing e)) })
    (λ _. tt)
explained old negated ms places.Escape c =
    cond_both (is_escaped c) _ _ (Explains negated ms places.Escape c)
    (λ p cs r rest h. goes h (λ b e. h.tail (b ∷ c ∷ cs) (escaped e p)))
    (λ _. tt)
explained old negated ms (places.EscapeTo low) c =
    cond_both (is_escaped c && nat_le low c) _ _ (Explains negated ms (places.EscapeTo low) c)
    (λ e cs r rest k. let both = and_parts (is_escaped c) (nat_le low c) e in
    adds (member.Range low c) k (λ s h b i g f. k.tail.0 s (member.Range low c) (range i g (escaped f both.0) (leb-true low c both.1))))
    (λ _. tt)

-- the first character leads to a reader, and the others go on from there
goes_first : (d : ℕ) (front : List ℕ) (from at : ClassReader) → class_run from (d ∷ front) ≡ Some at → (next : ClassReader) × (class_step from d ≡ (taken.More, next)) × (class_run next front ≡ Some at)
goes_first d front from at e = led (class_step from d).0 refl
  where
    led : (t : ClassTaken) → (class_step from d).0 ≡ t → (next : ClassReader) × (class_step from d ≡ (taken.More, next)) × (class_run next front ≡ Some at)
    led taken.More f = ((class_step from d).1, ap (λ t. (t, (class_step from d).1)) f, rw f at e)
    led taken.Whole f = let none : None ≡ Some at = rw f at e in cc
    led taken.Misfit f = let none : None ≡ Some at = rw f at e in cc

-- characters that close the class end it, from any reader
sound_from : (front : List ℕ) (c : ℕ) (from at r : ClassReader) → class_run from front ≡ Some at → class_step at c ≡ (taken.Whole, r) → (rest : List ℕ)
    → EndsAt from.negated from.members from.place (front ++ c ∷ rest) r rest
sound_from [] c from at r e f rest =
    let here : from ≡ at = cc in
    subst (Explains from.negated from.members from.place c) (ap (λ x. class_step x c) here ∙ f) (explained from from.negated from.members from.place c) rest
sound_from (d ∷ front) c from at r e f rest =
    let first = goes_first d front from at e in
    subst (Explains from.negated from.members from.place d) first.1 (explained from from.negated from.members from.place d) _ r rest (sound_from front c first.0 at r first.2 f rest)

-- front has led to the reader, none of it closed the class; then c closes it: what was read is a class, whatever comes after
pub class_sound : (front : List ℕ) (c : ℕ) (at r : ClassReader) → class_run new_class front ≡ Some at → class_step at c ≡ (taken.Whole, r) → (rest : List ℕ)
    → IsClass (front ++ c ∷ rest) r.negated r.members rest
class_sound front c at r e f rest = sound_from front c new_class at r e f rest refl refl

-- What is begun can be closed.

-- some character may end the range that is begun
abbrev CanClose : ClassPlace → Type 0
CanClose (places.EscapeTo low) = low ≤ last_escaped
CanClose place = Unit {0}

-- so it is after a step that goes on
abbrev StaysOpen : ClassTaken × ClassReader → Type 0
StaysOpen (taken.More, next) = CanClose next.place
StaysOpen (t, next) = Unit {0}

-- it is in both cases
in_both : (b : Bool) (x y : ClassTaken × ClassReader) → StaysOpen x → StaysOpen y → StaysOpen (if b then x else y)
in_both b x y f g = cond_both b x y StaysOpen (λ _. f) (λ _. g)

-- where a member begins
begun_open : (old : ClassReader) (negated : Bool) (ms : List Member) (c : ℕ) → StaysOpen (begins_member old negated ms c)
begun_open old negated ms c =
    cond_both (is_plain_member c) _ _ (λ o. StaysOpen (goes_on old negated ms o)) (λ _. tt) (λ _. cond_both (c == backslash) _ _ (λ o. StaysOpen (goes_on old negated ms o)) (λ _. tt) (λ _. tt))

-- at each step
stays_open : (old : ClassReader) (negated : Bool) (ms : List Member) (place : ClassPlace) (c : ℕ) → StaysOpen (step_at old negated ms place c)
stays_open old negated ms places.Sign c = in_both (c == sign) _ _ tt (in_both (c == hyphen) _ _ tt (begun_open old negated ms c))
stays_open old negated ms places.First c = in_both (c == hyphen) _ _ tt (begun_open old negated ms c)
stays_open old negated ms (places.Single d) c = in_both (c == closing) _ _ tt (in_both (c == hyphen) _ _ tt (begun_open old negated (ms ++ member.Char d ∷ []) c))
stays_open old negated ms (places.Hyphen low) c =
    in_both (c == closing) _ _ tt (in_both (is_plain_member c && nat_le low c) _ _ tt
    (cond_both (c == backslash && nat_le low last_escaped) _ _ StaysOpen (λ e. leb-true low last_escaped (and_parts (c == backslash) (nat_le low last_escaped) e).1) (λ _. tt)))
stays_open old negated ms places.Between c = in_both (c == closing) _ _ tt (in_both (c == hyphen) _ _ tt (begun_open old negated ms c))
stays_open old negated ms places.LastHyphen c = in_both (c == closing) _ _ tt tt
stays_open old negated ms places.Escape c = in_both (is_escaped c) _ _ tt tt
stays_open old negated ms (places.EscapeTo low) c = in_both (is_escaped c && nat_le low c) _ _ tt tt

-- and after any number of them
open_from : (front : List ℕ) (from at : ClassReader) → CanClose from.place → class_run from front ≡ Some at → CanClose at.place
open_from [] from at h e = let here : from ≡ at = cc in subst (λ x. CanClose x.place) here h
open_from (d ∷ front) from at h e =
    let first = goes_first d front from at e in
    open_from front first.0 at (subst StaysOpen first.1 (stays_open from from.negated from.members from.place d)) first.2

-- characters that close the class
close : (negated : Bool) (ms : List Member) (place : ClassPlace) → CanClose place → (tail : List ℕ) × (r : ClassReader) × (class_read (reader_at negated ms place) tail ≡ Some (r, []))
close negated ms places.Sign h = (codes "a]", _, refl)
close negated ms places.First h = (codes "a]", _, refl)
close negated ms (places.Single d) h = (codes "]", _, refl)
close negated ms (places.Hyphen low) h = (codes "]", _, refl)
close negated ms places.Between h = (codes "]", _, refl)
close negated ms places.LastHyphen h = (codes "]", _, refl)
close negated ms places.Escape h = (codes "}]", _, refl)
close negated ms (places.EscapeTo low) h = (codes "}]", reader_at negated (ms ++ member.Range low last_escaped ∷ []) places.Between, rw (le-leb low last_escaped h) refl)

-- whatever is read so far can be closed
pub class_live : (front : List ℕ) (at : ClassReader) → class_run new_class front ≡ Some at → (tail : List ℕ) × (r : ClassReader) × (class_read at tail ≡ Some (r, []))
class_live front at e = close at.negated at.members at.place (open_from front new_class at tt e)

-- one character more leads on
pub class_run_more : (front : List ℕ) (c : ℕ) (from at next : ClassReader) → class_run from front ≡ Some at → class_step at c ≡ (taken.More, next) → class_run from (front ++ c ∷ []) ≡ Some next
class_run_more [] c from at next e f =
    let here : from ≡ at = cc in
    rw (ap (λ x. class_step x c) here ∙ f) refl
class_run_more (d ∷ front) c from at next e f = let first = goes_first d front from at e in rw first.1 (class_run_more front c first.0 at next first.2 f)
