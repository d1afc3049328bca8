-- The prefixes that the names of a condition stand by: each is declared once, and under them each word names its name.
use Rattle.std.proofs.Common.{◌≡◌, ◌≢◌, ◌≤◌, ◌<◌, ◌+◌, ◌-◌, ◌*◌, ◌/◌, ◌%◌, ℕ, suc, zero, Bool, true, false, ◌||◌, if◌then◌else◌, List, [], ◌∷◌, ◌++◌, map, Some, None, refl, sym, ap, subst, ◌∙◌, ◌==◌, append_assoc, append-nil, arith, ⊎_elim}
use Rattle.std.specs.Cmp.Lexicographic.{same_text}
use Rattle.std.specs.List.{list_all}
use Rattle.std.specs.Prelude.{All, codes, not}
use Rattle.std.proofs.lemmas.Bool.{and_from, cases_lt, le-ltb, lt-ltb}
use Rattle.std.proofs.lemmas.Bool.Decides.{nat_tests}
use Rattle.std.proofs.lemmas.List.{append_cancel_left}
use Rattle.std.proofs.lemmas.List.Elements.{All-cons, All-head, All-nil, All-tail}
use Rattle.odd_text.specs.declared.name.Bind.{Bind}
use Rattle.odd_text.specs.declared.name.Name.{Name}
use Rattle.odd_tokens.proofs.Ascii.{ascii_legal, is_name}
use Rattle.odd_tokens.proofs.Characters.{Distinct, Lacks, all_weaker, none_twice}
use Rattle.odd_tokens.specs.Characters.{IsNCName, is_space, is_within}
use Rattle.odd_text.specs.Same.{is_same}
use Rattle.odd_tree.proofs.LastBound.{last_bound_none, last_bound_some, not_same}
use Rattle.odd_tree.proofs.PrintedTrees.{ArePlainPrefixes, IsPlainPrefix, apart, bind_of, same_from}
use Rattle.odd_tree.specs.Markup.{Pair}
use Rattle.odd_tree.specs.Names.{in_force, last_bound, xml_namespace}
use Rattle.odd_forms.proofs.Colon.{prefixed_read}
use Rattle.odd_forms.specs.Excepting.{excepted_of, named_in}
use Rattle.odd_forms.specs.declared.excepted.Excepted.TheVariants as excepted
use Rattle.odd_content.specs.Formed.{IsExceptedName}
use Rattle.odd_emit.specs.Contents.{begins, digits_before, prefix, prefix_if, prefixed, prefixed_from, prefixes_from}
use Rattle.merged_laws.proofs.Values.{IsWord, any_append, legal_both, name_word}

-- The digits of a number

-- what digits are worth, behind what is worth so much
abbrev worth : ℕ → List ℕ → ℕ
worth n [] = n
worth n (c ∷ cs) = worth (n * 10 + (c - 48)) cs

digits_worth : (k n : ℕ) (behind : List ℕ) → n < k → worth 0 (digits_before k n behind) ≡ worth n behind
digits_worth zero n behind h = absurd (omega (arith, h))
digits_worth (suc k) n behind h = ⊎_elim
    (λ low.
    let same : 0 * 10 + (48 + n - 48) ≡ n = omega arith in
    ap (λ b. worth 0 (if b then (48 + n) ∷ behind else digits_before k (n / 10) ((48 + n % 10) ∷ behind))) (lt-ltb n 10 low) ∙ ap (λ m. worth m behind) same)
    (λ high.
    let fewer : n / 10 < k = omega (arith, h, high) in
    let same : n / 10 * 10 + (48 + n % 10 - 48) ≡ n = omega arith in
    ap (λ b. worth 0 (if b then (48 + n) ∷ behind else digits_before k (n / 10) ((48 + n % 10) ∷ behind))) (le-ltb n 10 high)
    ∙ digits_worth k (n / 10) ((48 + n % 10) ∷ behind) fewer ∙ ap (λ m. worth m behind) same)
    (cases_lt n 10)

abbrev is_digit : ℕ → Bool
is_digit = is_within 0x30 0x39

one_digit : (d : ℕ) → d < 10 → is_digit (48 + d) ≡ true
one_digit d h = grind (arith, nat_tests)

digits_told : (k n : ℕ) (behind : List ℕ) → list_all is_digit behind ≡ true → list_all is_digit (digits_before k n behind) ≡ true
digits_told zero n behind h = h
digits_told (suc k) n behind h = ⊎_elim
    (λ low.
    ap (λ b. list_all is_digit (if b then (48 + n) ∷ behind else digits_before k (n / 10) ((48 + n % 10) ∷ behind))) (lt-ltb n 10 low) ∙ and_from (is_digit (48 + n)) (list_all is_digit behind) (one_digit n low) h)
    (λ high.
    let last : n % 10 < 10 = omega arith in
    ap (λ b. list_all is_digit (if b then (48 + n) ∷ behind else digits_before k (n / 10) ((48 + n % 10) ∷ behind))) (le-ltb n 10 high)
    ∙ digits_told k (n / 10) ((48 + n % 10) ∷ behind) (and_from (is_digit (48 + n % 10)) (list_all is_digit behind) (one_digit (n % 10) last) h))
    (cases_lt n 10)

-- the characters of a name that are in ASCII
abbrev is_ascii_char : ℕ → Bool
is_ascii_char c = (is_within 0x41 0x5A c || c == 0x5F || is_within 0x61 0x7A c) || c == 0x2D || c == 0x2E || is_within 0x30 0x39 c

digit_named : (c : ℕ) → is_digit c ≡ true → is_ascii_char c ≡ true
digit_named c h = grind (arith, nat_tests)

-- A prefix is a name, and another number's is another

prefix_named : (number : ℕ) → IsNCName (prefix number)
prefix_named number =
    let digits = digits_before (suc number) number [] in
    is_name (prefix number) (all_weaker is_digit is_ascii_char digit_named digits (digits_told (suc number) number [] refl))

prefix_apart : (m n : ℕ) → prefix m ≡ prefix n → m ≡ n
prefix_apart m n e =
    let digits : digits_before (suc m) m [] ≡ digits_before (suc n) n [] = append_cancel_left (codes "n") _ _ e in
    sym (digits_worth (suc m) m [] (omega arith)) ∙ ap (worth 0) digits ∙ digits_worth (suc n) n [] (omega arith)

prefix_other : (m n : ℕ) → m < n → prefix n ≢ prefix m
prefix_other m n less = λ e. let same = prefix_apart n m e in omega (arith, less, same)

-- the number of a namespace that is new, or is not
abbrev number_by : Bool → ℕ → ℕ
number_by is_new count = if is_new then suc count else count

-- Which prefixes are bound

one_bound : (ns p : List ℕ) → last_bound (bind_of (p, ns) ∷ []) p ≡ Some ns
one_bound ns p = ap (λ b. if b then Some ns else None) (same_from p p refl)

other_bound : (ns p q : List ℕ) → p ≢ q → last_bound (bind_of (p, ns) ∷ []) q ≡ None
other_bound ns p q other = ap (λ b. if b then Some ns else None) (not_same p q other)

-- with one more prefix before the others
with_one : (P : List Bind → Type 0) (binds : List Bind) (p : Pair) (rest : List Pair) → P ((binds ++ bind_of p ∷ []) ++ map bind_of rest) → P (binds ++ map bind_of (p ∷ rest))
with_one P binds p rest h = subst P (append_assoc binds (bind_of p ∷ []) (map bind_of rest)) h

-- Later prefixes leave the earlier ones. Of the first it is shown where it holds of the others.
kept_by : (binds : List Bind) (count m : ℕ) (ns : List ℕ) (names : List Name) → m ≤ count
    → ((own : List Bind) (number : ℕ) → m ≤ number → last_bound (own ++ map bind_of (prefixes_from ns number names)) (prefix m) ≡ last_bound own (prefix m)) → (is_new : Bool)
    → last_bound (binds ++ map bind_of (prefix_if is_new (number_by is_new count) ns ++ prefixes_from ns (number_by is_new count) names)) (prefix m) ≡ last_bound binds (prefix m)
kept_by binds count m ns names h rest true =
    let p = prefix (suc count) in
    with_one (λ bs. last_bound bs (prefix m) ≡ last_bound binds (prefix m)) binds (p, ns) (prefixes_from ns (suc count) names)
    (rest (binds ++ bind_of (p, ns) ∷ []) (suc count) (omega (arith, h)) ∙ last_bound_none binds (bind_of (p, ns) ∷ []) (prefix m) (other_bound ns p (prefix m) (prefix_other m (suc count) (omega (arith, h)))))
kept_by binds count m ns names h rest false = rest binds count h

later_kept : (binds : List Bind) (before : List ℕ) (count m : ℕ) (names : List Name) → m ≤ count
    → last_bound (binds ++ map bind_of (prefixes_from before count names)) (prefix m) ≡ last_bound binds (prefix m)
later_kept binds before count m [] h = ap (λ bs. last_bound bs (prefix m)) (append-nil binds)
later_kept binds before count m (name ∷ names) h =
    kept_by binds count m name.ns names h (λ own number k. later_kept own name.ns number m names k) (begins before name.ns)

-- a namespace but XML's is bound to the prefix of this number
abbrev IsBoundAt : List Bind → List ℕ → ℕ → Type 0
IsBoundAt binds ns number = is_same ns xml_namespace ≡ false → last_bound binds (prefix number) ≡ Some ns

-- Words

abbrev prefix_by : Bool → ℕ → List ℕ
prefix_by of_xml number = if of_xml then codes "xml" else prefix number

prefix_by_named : (of_xml : Bool) (number : ℕ) → IsNCName (prefix_by of_xml number)
prefix_by_named true number = is_name (codes "xml") refl
prefix_by_named false number = prefix_named number

some_more : (xs ys : List ℕ) → xs ≢ [] → xs ++ ys ≢ []
some_more [] ys some = absurd (some refl)
some_more (x ∷ xs) ys some = λ e. cc

-- two names around a colon are a word
colon_word : (p local : List ℕ) → IsNCName p → IsNCName local → IsWord (p ++ codes ":" ++ local)
colon_word p local n m =
    let before = name_word p n in
    let after = name_word local m in
    record {
      legal = legal_both (p ++ codes ":") local (legal_both p (codes ":") before.legal (ascii_legal (codes ":") refl)) after.legal;
      filled = some_more (p ++ codes ":") local (some_more p (codes ":") before.filled);
      unspaced = any_append is_space (p ++ codes ":") local (any_append is_space p (codes ":") before.unspaced refl) after.unspaced;
    }

module _ (name : Name) (h : IsExceptedName name) (number : ℕ) where
  by_prefix : (binds : List Bind) (of_xml : Bool) → is_same name.ns xml_namespace ≡ of_xml → IsBoundAt binds name.ns number → in_force binds (prefix_by of_xml number) ≡ Some name.ns
  by_prefix binds true e b = ap Some (sym (same_text name.ns xml_namespace (sym e)))
  by_prefix binds false e b = b e

  -- each word names its name
  word_read : (binds : List Bind) → IsBoundAt binds name.ns number → excepted_of binds (prefixed number name) ≡ excepted.Name name
  word_read binds b =
      let of_xml = is_same name.ns xml_namespace in
      prefixed_read binds (prefixed number name) (prefix_by of_xml number) name.local (record { is = refl; prefix_named = prefix_by_named of_xml number; local_named = h.named })
      ∙ ap (λ o. named_in o name.local) (by_prefix binds of_xml refl b)

  -- and is a word
  word_is : IsWord (prefixed number name)
  word_is = let of_xml = is_same name.ns xml_namespace in colon_word (prefix_by of_xml number) name.local (prefix_by_named of_xml number) h.named

abbrev pub AreNamed : List Bind → List (List ℕ) → List Name → Type 0
AreNamed binds [] [] = Unit {0}
AreNamed binds (w ∷ ws) (name ∷ names) = (excepted_of binds w ≡ excepted.Name name) × IsWord w × AreNamed binds ws names
AreNamed binds ws names = ⊥

-- a namespace that needs no prefix of its own is XML's, or that of the name before it
begun : (before ns : List ℕ) → begins before ns ≡ false → is_same ns xml_namespace ≡ false → ns ≡ before
begun before ns e other = same_text ns before (sym (by (is_same ns before) (is_same ns xml_namespace) e other))
  where
    by : (same of_xml : Bool) → not (same || of_xml) ≡ false → of_xml ≡ false → same ≡ true
    by true of_xml e other = refl
    by false true e other = cc
    by false false e other = cc

-- The first names its name where its namespace is bound, and so do the others where they do so.
named_by : (binds : List Bind) (before : List ℕ) (count : ℕ) (name : Name) (names : List Name) → IsExceptedName name → IsBoundAt binds before count
    → ((own : List Bind) (number : ℕ) → IsBoundAt own name.ns number → AreNamed (own ++ map bind_of (prefixes_from name.ns number names)) (prefixed_from name.ns number names) names)
    → (is_new : Bool) → begins before name.ns ≡ is_new
    → AreNamed (binds ++ map bind_of (prefix_if is_new (number_by is_new count) name.ns ++ prefixes_from name.ns (number_by is_new count) names))
    (prefixed (number_by is_new count) name ∷ prefixed_from name.ns (number_by is_new count) names) (name ∷ names)
named_by binds before count name names h b rest = by
  where
    with_first : (own : List Bind) (number : ℕ) → IsBoundAt own name.ns number
        → AreNamed (own ++ map bind_of (prefixes_from name.ns number names)) (prefixed number name ∷ prefixed_from name.ns number names) (name ∷ names)
    with_first own number there = (
      word_read name h number (own ++ map bind_of (prefixes_from name.ns number names)) (λ other. later_kept own name.ns number number names (omega arith) ∙ there other),
      word_is name h number,
      rest own number there,
    )

    by : (is_new : Bool) → begins before name.ns ≡ is_new
        → AreNamed (binds ++ map bind_of (prefix_if is_new (number_by is_new count) name.ns ++ prefixes_from name.ns (number_by is_new count) names))
        (prefixed (number_by is_new count) name ∷ prefixed_from name.ns (number_by is_new count) names) (name ∷ names)
    by true e =
        let p = prefix (suc count) in
        with_one (λ bs. AreNamed bs (prefixed (suc count) name ∷ prefixed_from name.ns (suc count) names) (name ∷ names)) binds (p, name.ns) (prefixes_from name.ns (suc count) names)
        (with_first (binds ++ bind_of (p, name.ns) ∷ []) (suc count) (λ other. last_bound_some binds (bind_of (p, name.ns) ∷ []) p name.ns (one_bound name.ns p)))
    by false e =
        with_first binds count
        (λ other. let same = begun before name.ns e other in subst (λ ns. last_bound binds (prefix count) ≡ Some ns) (sym same) (b (ap (λ ns. is_same ns xml_namespace) (sym same) ∙ other)))

all_named : (binds : List Bind) (before : List ℕ) (count : ℕ) (names : List Name) → All IsExceptedName names → IsBoundAt binds before count
    → AreNamed (binds ++ map bind_of (prefixes_from before count names)) (prefixed_from before count names) names
all_named binds before count [] h b = tt
all_named binds before count (name ∷ names) h b =
    named_by binds before count name names (All-head IsExceptedName name names h) b (λ own number k. all_named own name.ns number names (All-tail IsExceptedName name names h) k) (begins before name.ns) refl

pub names_named : (around : List Bind) (names : List Name) → All IsExceptedName names
    → AreNamed (around ++ map bind_of (prefixes_from xml_namespace zero names)) (prefixed_from xml_namespace zero names) names
names_named around names h = all_named around xml_namespace zero names h (λ other. cc)

-- The prefixes may be declared

abbrev prefixes_in : List Pair → List (List ℕ)
prefixes_in = map (λ p. p.0)

later_lack : (before : List ℕ) (count m : ℕ) (names : List Name) → m ≤ count → Lacks (prefix m) (prefixes_in (prefixes_from before count names))
later_lack before count m [] h = tt
later_lack before count m (name ∷ names) h = by (begins before name.ns) (λ number k. later_lack name.ns number m names k)
  where
    by : (is_new : Bool) → ((number : ℕ) → m ≤ number → Lacks (prefix m) (prefixes_in (prefixes_from name.ns number names)))
        → Lacks (prefix m) (prefixes_in (prefix_if is_new (number_by is_new count) name.ns ++ prefixes_from name.ns (number_by is_new count) names))
    by true rest = (prefix_other m (suc count) (omega (arith, h)), rest (suc count) (omega (arith, h)))
    by false rest = rest count h

all_distinct : (before : List ℕ) (count : ℕ) (names : List Name) → Distinct (prefixes_in (prefixes_from before count names))
all_distinct before count [] = tt
all_distinct before count (name ∷ names) = by (begins before name.ns) (λ number. all_distinct name.ns number names)
  where
    by : (is_new : Bool) → ((number : ℕ) → Distinct (prefixes_in (prefixes_from name.ns number names)))
        → Distinct (prefixes_in (prefix_if is_new (number_by is_new count) name.ns ++ prefixes_from name.ns (number_by is_new count) names))
    by true rest = (later_lack name.ns (suc count) (suc count) names (omega arith), rest (suc count))
    by false rest = rest count

-- a namespace that is declared is not XML's
not_of_xml : (before ns : List ℕ) → begins before ns ≡ true → is_same ns xml_namespace ≡ false
not_of_xml before ns e = by (is_same ns before) (is_same ns xml_namespace) e
  where
    by : (same of_xml : Bool) → not (same || of_xml) ≡ true → of_xml ≡ false
    by true of_xml e = cc
    by false true e = cc
    by false false e = refl

plain_prefix : (number : ℕ) (name : Name) → IsExceptedName name → is_same name.ns xml_namespace ≡ false → IsPlainPrefix (prefix number, name.ns)
plain_prefix number name h other = record {
  named = prefix_named number;
  xml = λ e. apart (prefix number) (codes "xml") refl e;
  xmlns = λ e. apart (prefix number) (codes "xmlns") refl e;
  namespace = record { legal = h.legal; xml = λ e. apart name.ns xml_namespace other e; reserved = h.unreserved };
  bound = h.filled;
}

all_plain : (before : List ℕ) (count : ℕ) (names : List Name) → All IsExceptedName names → All IsPlainPrefix (prefixes_from before count names)
all_plain before count [] h = All-nil IsPlainPrefix
all_plain before count (name ∷ names) h = by (begins before name.ns) refl (λ number. all_plain name.ns number names (All-tail IsExceptedName name names h))
  where
    by : (is_new : Bool) → begins before name.ns ≡ is_new → ((number : ℕ) → All IsPlainPrefix (prefixes_from name.ns number names))
        → All IsPlainPrefix (prefix_if is_new (number_by is_new count) name.ns ++ prefixes_from name.ns (number_by is_new count) names)
    by true e rest = All-cons IsPlainPrefix (prefix (suc count), name.ns) _ (plain_prefix (suc count) name (All-head IsExceptedName name names h) (not_of_xml before name.ns e)) (rest (suc count))
    by false e rest = rest count

pub prefixes_plain : (names : List Name) → All IsExceptedName names → ArePlainPrefixes (prefixes_from xml_namespace zero names)
prefixes_plain names h = record { each = all_plain xml_namespace zero names h; once = none_twice _ (all_distinct xml_namespace zero names) }
