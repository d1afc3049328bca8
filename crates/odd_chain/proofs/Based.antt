-- A file that stands for the files of a library leaves every later file of a chain as it was: the same library after it, and the same offences.
use Rattle.std.proofs.Common.{◌≡◌, ◌≤◌, ◌<◌, ◌+◌, ◌-◌, ℕ, suc, Bool, List, [], ◌∷◌, ◌++◌, length, inl, inr, refl, sym, ap, subst, ◌∙◌, append_assoc, arith, length-append}
use Rattle.std.proofs.lemmas.List.{reverse-append}
use Rattle.std.specs.Prelude.{reverse}
use Rattle.odd_decls.proofs.ReadWith.{declared_sound}
use Rattle.odd_decls.specs.Declares.{Declares}
use Rattle.odd_library.specs.declared.library.Library.{Library}
use Rattle.odd_library.specs.declared.odd.OddDoc.{OddDoc}
use Rattle.odd_modes.specs.After.{IsLibraryAfter, after_one, held_after, ident_after, start_after}
use Rattle.odd_text.specs.declared.key.Key.{Key}
use Rattle.odd_text.specs.declared.offence.Offence.{Offence}
use Rattle.odd_tree.specs.declared.tree.Tree.{Tree}
use Rattle.odd_chain.proofs.Files.{of_chain, whole}
use Rattle.odd_chain.proofs.Declared.{as_many, one_docs}
use Rattle.odd_chain.specs.Base.{StandsFor, moved}
use Rattle.odd_chain.specs.Files.{AreDeclared, ChainOffends, Gives, IsChainRefusal, more, none, of_doc, of_form}
use Rattle.odd_chain.specs.Offences.{OffendsIn, of_item, of_library}
use Rattle.odd_chain.specs.Order.{ComesNotAfter, Position, form, held, item, offence_at}

-- where a list begins with some items, an item of it stands among these or after them
pub data At {A : Type 0} (xs ys a : List A) (x : A) (b : List A) : Type 0 where
  behind : (m : List A) → a ≡ xs ++ m → ys ≡ m ++ x ∷ b → At xs ys a x b
  among : (m : List A) → xs ≡ a ++ x ∷ m → At xs ys a x b

pub place_of : {A : Type 0} (xs ys a : List A) (x : A) (b : List A) → xs ++ ys ≡ a ++ x ∷ b → At xs ys a x b
place_of [] ys a x b e = behind a refl e
place_of (y ∷ xs) ys [] x b e = let same : y ≡ x = cc in among xs (λ i. same i ∷ xs)
place_of (y ∷ xs) ys (z ∷ a) x b e = further (place_of xs ys a x b (cc))
  where
    same : y ≡ z
    same = cc

    further : At xs ys a x b → At (y ∷ xs) ys (z ∷ a) x b
    further (behind m p q) = behind m (λ i. sym same i ∷ p i) q
    further (among m p) = among m (λ i. same i ∷ p i)

-- and so for a front of it
data Front {A : Type 0} (xs ys a b : List A) : Type 0 where
  longer : (m : List A) → a ≡ xs ++ m → ys ≡ m ++ b → Front xs ys a b
  shorter : (x : A) (m : List A) → xs ≡ a ++ x ∷ m → Front xs ys a b

front_of : {A : Type 0} (xs ys a b : List A) → xs ++ ys ≡ a ++ b → Front xs ys a b
front_of [] ys a b e = longer a refl e
front_of (y ∷ xs) ys [] b e = shorter y xs refl
front_of (y ∷ xs) ys (z ∷ a) b e = further (front_of xs ys a b (cc))
  where
    same : y ≡ z
    same = cc

    further : Front xs ys a b → Front (y ∷ xs) ys (z ∷ a) b
    further (longer m p q) = longer m (λ i. sym same i ∷ p i) q
    further (shorter x m p) = shorter x m (λ i. same i ∷ p i)

-- files that go on from others declare docs that go on from theirs
declared_on : {aside : Bool} (files later : List Tree) (docs all : List OddDoc) → AreDeclared aside files docs → AreDeclared aside (files ++ later) all
    → (rest : List OddDoc) × (all ≡ docs ++ rest) × AreDeclared aside later rest
declared_on files later docs all none are = (all, refl, are)
declared_on {aside} files later docs all (more {trees = ts} {doc = a} {docs = ds} d first) (more {doc = b} {docs = bs} e are) =
    let made = declared_on ts later ds bs first are in
    let same : a ∷ [] ≡ b ∷ [] = one_docs _ (a ∷ []) (b ∷ []) (more d none) (more e none) in
    let one : b ≡ a = cc in
    (made.0, (λ i. one i ∷ made.1 i), made.2)

both_declared : {aside : Bool} (files later : List Tree) (docs rest : List OddDoc) → AreDeclared aside files docs → AreDeclared aside later rest → AreDeclared aside (files ++ later) (docs ++ rest)
both_declared files later docs rest none are = are
both_declared files later docs rest (more {trees = ts} {docs = ds} d first) are = more d (both_declared ts later ds rest first are)

module _ {aside : Bool} (files : List Tree) (tree : Tree) (library : Library) (some : 1 ≤ length files) (g : Gives aside files library) (s : StandsFor library tree) where
  -- how many files it takes the place of beside one
  abbrev pub by : ℕ
  by = length files - 1

  many : length g.docs ≡ length files
  many = as_many files g.docs g.declared

  -- the library after docs that follow

  held_same : (zs : List OddDoc) (key : Key) → held_after (zs ++ reverse g.docs) key ≡ held_after (zs ++ s.doc ∷ []) key
  held_same [] key = sym (g.is_library.holds key) ∙ s.is_library.holds key
  held_same (z ∷ zs) key = ap (after_one z key) (held_same zs key)

  ident_same : (zs : List OddDoc) → ident_after (zs ++ reverse g.docs) ≡ ident_after (zs ++ s.doc ∷ [])
  ident_same [] = sym g.is_library.ident ∙ s.is_library.ident
  ident_same (z ∷ zs) = refl

  start_same : (zs : List OddDoc) → start_after (zs ++ reverse g.docs) ≡ start_after (zs ++ s.doc ∷ [])
  start_same [] = sym g.is_library.start ∙ s.is_library.start
  start_same (z ∷ zs) = refl

  turned_docs : (later : List OddDoc) → reverse (g.docs ++ later) ≡ reverse later ++ reverse g.docs
  turned_docs later = reverse-append g.docs later

  turned_doc : (later : List OddDoc) → reverse (s.doc ∷ later) ≡ reverse later ++ s.doc ∷ []
  turned_doc later = reverse-append (s.doc ∷ []) later

  library_on : (later : List OddDoc) (l : Library) → IsLibraryAfter (g.docs ++ later) l → IsLibraryAfter (s.doc ∷ later) l
  library_on later l a = record {
    ident = a.ident ∙ ap ident_after (turned_docs later) ∙ ident_same (reverse later) ∙ sym (ap ident_after (turned_doc later));
    start = a.start ∙ ap start_after (turned_docs later) ∙ start_same (reverse later) ∙ sym (ap start_after (turned_doc later));
    rising = a.rising;
    holds = λ key. a.holds key ∙ ap (λ ds. held_after ds key) (turned_docs later) ∙ held_same (reverse later) key ∙ sym (ap (λ ds. held_after ds key) (turned_doc later));
  }

  library_back : (later : List OddDoc) (l : Library) → IsLibraryAfter (s.doc ∷ later) l → IsLibraryAfter (g.docs ++ later) l
  library_back later l a = record {
    ident = a.ident ∙ ap ident_after (turned_doc later) ∙ sym (ident_same (reverse later)) ∙ sym (ap ident_after (turned_docs later));
    start = a.start ∙ ap start_after (turned_doc later) ∙ sym (start_same (reverse later)) ∙ sym (ap start_after (turned_docs later));
    rising = a.rising;
    holds = λ key. a.holds key ∙ ap (λ ds. held_after ds key) (turned_doc later) ∙ sym (held_same (reverse later) key) ∙ sym (ap (λ ds. held_after ds key) (turned_docs later));
  }

  -- none of its docs has an offence
  docs_sound : (file : ℕ) (at : Position) → OffendsIn g.docs file at → ⊥
  docs_sound file at o = g.unoffended file at (of_chain files g.docs (whole files g.docs g.declared) file at o)

  -- the offences of docs that follow

  on_both : (earlier m : List OddDoc) (e : earlier ≡ g.docs ++ m) (doc : OddDoc) → earlier ++ doc ∷ [] ≡ g.docs ++ (m ++ doc ∷ [])
  on_both earlier m e doc = ap (λ ds. ds ++ doc ∷ []) e ∙ append_assoc g.docs m (doc ∷ [])

  offends_on : (later : List OddDoc) (file : ℕ) (at : Position) → OffendsIn (g.docs ++ later) file at → (length files < file) × OffendsIn (s.doc ∷ later) (file - by) at
  offends_on later _ _ (of_item {place} {rule} earlier doc rest l parts before offends) = elim (place_of g.docs later earlier doc rest parts) [
    | behind m e p ↦
        let count : length earlier ≡ length files + length m = ap length e ∙ length-append g.docs m ∙ ap (λ n. n + length m) many in
        let number : suc (length (s.doc ∷ m)) ≡ suc (length earlier) - by = omega (arith, count, some) in (
          omega (arith, count),
          subst (λ n. OffendsIn (s.doc ∷ later) n (item place rule)) number
              (of_item {place = place} {rule = rule} (s.doc ∷ m) doc rest l (ap (λ ds. s.doc ∷ ds) p) (library_on m l (subst (λ ds. IsLibraryAfter ds l) e before)) offends),
        )
    | among m e ↦ absurd (docs_sound _ _ (of_item {place = place} {rule = rule} earlier doc m l e before offends))
  ]
  offends_on later _ _ (of_library {key} {rule} earlier doc rest l parts after breaks) = elim (place_of g.docs later earlier doc rest parts) [
    | behind m e p ↦
        let count : length earlier ≡ length files + length m = ap length e ∙ length-append g.docs m ∙ ap (λ n. n + length m) many in
        let number : suc (length (s.doc ∷ m)) ≡ suc (length earlier) - by = omega (arith, count, some) in (
          omega (arith, count),
          subst (λ n. OffendsIn (s.doc ∷ later) n (held key rule)) number
              (of_library {key = key} {rule = rule} (s.doc ∷ m) doc rest l (ap (λ ds. s.doc ∷ ds) p)
              (library_on (m ++ doc ∷ []) l (subst (λ ds. IsLibraryAfter ds l) (on_both earlier m e doc) after)) breaks),
        )
    | among m e ↦ absurd (docs_sound _ _ (of_library {key = key} {rule = rule} earlier doc m l e after breaks))
  ]

  offends_back : (later : List OddDoc) (file : ℕ) (at : Position) → OffendsIn (s.doc ∷ later) file at → (1 < file) × OffendsIn (g.docs ++ later) (file + by) at
  offends_back later _ _ (of_item {place} {rule} earlier doc rest l parts before offends) = elim (place_of (s.doc ∷ []) later earlier doc rest parts) [
    | behind m e p ↦
        let count : length earlier ≡ suc (length m) = ap length e in
        let number : suc (length (g.docs ++ m)) ≡ suc (length earlier) + by = omega (arith, count, some, many, length-append g.docs m) in (
          omega (arith, count),
          subst (λ n. OffendsIn (g.docs ++ later) n (item place rule)) number
              (of_item {place = place} {rule = rule} (g.docs ++ m) doc rest l (ap (λ ds. g.docs ++ ds) p ∙ sym (append_assoc g.docs m (doc ∷ rest)))
              (library_back m l (subst (λ ds. IsLibraryAfter ds l) e before)) offends),
        )
    | among m e ↦ absurd (s.unoffended _ _ (of_item {place = place} {rule = rule} earlier doc m l e before offends))
  ]
  offends_back later _ _ (of_library {key} {rule} earlier doc rest l parts after breaks) = elim (place_of (s.doc ∷ []) later earlier doc rest parts) [
    | behind m e p ↦
        let count : length earlier ≡ suc (length m) = ap length e in
        let number : suc (length (g.docs ++ m)) ≡ suc (length earlier) + by = omega (arith, count, some, many, length-append g.docs m) in
        let docs : earlier ++ doc ∷ [] ≡ s.doc ∷ (m ++ doc ∷ []) = ap (λ ds. ds ++ doc ∷ []) e in (
          omega (arith, count),
          subst (λ n. OffendsIn (g.docs ++ later) n (held key rule)) number
              (of_library {key = key} {rule = rule} (g.docs ++ m) doc rest l (ap (λ ds. g.docs ++ ds) p ∙ sym (append_assoc g.docs m (doc ∷ rest)))
              (subst (λ ds. IsLibraryAfter ds l) (sym (append_assoc g.docs m (doc ∷ []))) (library_back (m ++ doc ∷ []) l (subst (λ ds. IsLibraryAfter ds l) docs after))) breaks),
        )
    | among m e ↦ absurd (s.unoffended _ _ (of_library {key = key} {rule = rule} earlier doc m l e after breaks))
  ]

  -- the offences of files that follow

  chain_on : (later : List Tree) (file : ℕ) (at : Position) → ChainOffends aside (files ++ later) file at → (length files < file) × ChainOffends aside (tree ∷ later) (file - by) at
  chain_on later _ _ (of_form {place} {rule} before t after parts h) = elim (place_of files later before t after parts) [
    | behind m e p ↦
        let count : length before ≡ length files + length m = ap length e ∙ length-append files m in
        let number : suc (length (tree ∷ m)) ≡ suc (length before) - by = omega (arith, count, some) in (
          omega (arith, count),
          subst (λ n. ChainOffends aside (tree ∷ later) n (form place rule)) number (of_form {place = place} {rule = rule} (tree ∷ m) t after (ap (λ ts. tree ∷ ts) p) h),
        )
    | among m e ↦ absurd (g.unoffended _ _ (of_form {place = place} {rule = rule} before t m e h))
  ]
  chain_on later _ _ (of_doc {at} upto rest docs parts declared o) = elim (front_of files later upto rest parts) [
    | longer m e p ↦
        let on = declared_on files m g.docs docs g.declared (subst (λ ts. AreDeclared aside ts docs) e declared) in
        let made = offends_on on.0 (length upto) at (subst (λ ds. OffendsIn ds (length upto) at) on.1 o) in
        let count : length upto ≡ length files + length m = ap length e ∙ length-append files m in
        let number : length upto - by ≡ length (tree ∷ m) = omega (arith, count, some) in (
          made.0,
          subst (λ n. ChainOffends aside (tree ∷ later) n at) (sym number)
              (of_doc {at = at} (tree ∷ m) rest (s.doc ∷ on.0) (ap (λ ts. tree ∷ ts) p) (more (s.declares aside) on.2) (subst (λ n. OffendsIn (s.doc ∷ on.0) n at) number made.1)),
        )
    | shorter x m e ↦ absurd (g.unoffended _ at (of_doc {at = at} upto (x ∷ m) docs e declared o))
  ]

  -- the one file declares its doc, which has no offence

  first_is : (before : List Tree) (t : Tree) (m : List Tree) → tree ∷ [] ≡ before ++ t ∷ m → tree ≡ t
  first_is [] t m e = cc
  first_is (x ∷ []) t m e = cc
  first_is (x ∷ y ∷ xs) t m e = cc

  nothing_offends : (file : ℕ) (at : Position) → OffendsIn [] file at → ⊥
  nothing_offends _ _ (of_item [] doc later l parts before offends) = cc
  nothing_offends _ _ (of_item (x ∷ xs) doc later l parts before offends) = cc
  nothing_offends _ _ (of_library [] doc later l parts after breaks) = cc
  nothing_offends _ _ (of_library (x ∷ xs) doc later l parts after breaks) = cc

  none_declared : (upto : List Tree) (docs : List OddDoc) (x : Tree) (m : List Tree) → tree ∷ [] ≡ upto ++ x ∷ m → AreDeclared aside upto docs → (at : Position) → OffendsIn docs (length upto) at → ⊥
  none_declared [] _ x m e none at o = nothing_offends 0 at o
  none_declared (y ∷ []) docs x m e are at o = cc
  none_declared (y ∷ z ∷ ys) docs x m e are at o = cc

  chain_back : (later : List Tree) (file : ℕ) (at : Position) → ChainOffends aside (tree ∷ later) file at → (1 < file) × ChainOffends aside (files ++ later) (file + by) at
  chain_back later _ _ (of_form {place} {rule} before t after parts h) = elim (place_of (tree ∷ []) later before t after parts) [
    | behind m e p ↦
        let count : length before ≡ suc (length m) = ap length e in
        let number : suc (length (files ++ m)) ≡ suc (length before) + by = omega (arith, count, some, length-append files m) in (
          omega (arith, count),
          subst (λ n. ChainOffends aside (files ++ later) n (form place rule)) number
              (of_form {place = place} {rule = rule} (files ++ m) t after (ap (λ ts. files ++ ts) p ∙ sym (append_assoc files m (t ∷ after))) h),
        )
    | among m e ↦ absurd (declared_sound t aside s.doc (subst (λ x. Declares x aside s.doc) (first_is before t m e) (s.declares aside)) place rule h)
  ]
  chain_back later _ _ (of_doc {at} upto rest docs parts declared o) = elim (front_of (tree ∷ []) later upto rest parts) [
    | longer m e p ↦
        let on = declared_on (tree ∷ []) m (s.doc ∷ []) docs (more (s.declares aside) none) (subst (λ ts. AreDeclared aside ts docs) e declared) in
        let made = offends_back on.0 (length upto) at (subst (λ ds. OffendsIn ds (length upto) at) on.1 o) in
        let count : length upto ≡ suc (length m) = ap length e in
        let number : length upto + by ≡ length (files ++ m) = omega (arith, count, some, length-append files m) in (
          made.0,
          subst (λ n. ChainOffends aside (files ++ later) n at) (sym number)
              (of_doc {at = at} (files ++ m) rest (g.docs ++ on.0) (ap (λ ts. files ++ ts) p ∙ sym (append_assoc files m rest)) (both_declared files m g.docs on.0 g.declared on.2)
              (subst (λ n. OffendsIn (g.docs ++ on.0) n at) number made.1)),
        )
    | shorter x m e ↦ absurd (none_declared upto docs x m e declared at o)
  ]

  -- the first offence of a chain that goes on, and the library after it

  pub refused_on : (later : List Tree) (o : Offence) → IsChainRefusal aside (files ++ later) o → IsChainRefusal aside (tree ∷ later) (moved by o)
  refused_on later o r =
      let here = chain_on later o.file r.at r.is_one in
      record {
        at = r.at;
        told = ap (moved by) r.told ∙ moved_at o.file r.at;
        is_one = here.1;
        first = λ other others is. let back = chain_back later other others is in not_after o.file r.at other others here.0 back.0 (r.first (other + by) others back.1);
      }
    where
      moved_at : (file : ℕ) (at : Position) → moved by (offence_at file at) ≡ offence_at (file - by) at
      moved_at file (form place rule) = refl
      moved_at file (item place rule) = refl
      moved_at file (held key rule) = refl

      not_after : (file : ℕ) (at : Position) (other : ℕ) (others : Position) → length files < file → 1 < other → ComesNotAfter file at (other + by) others → ComesNotAfter (file - by) at other others
      not_after file at other others later_file first (inl h) = inl (omega (arith, later_file, some, h))
      not_after file at other others later_file first (inr (e, h)) = inr (omega (arith, later_file, some, e), h)

  pub gives_on : (later : List Tree) (l : Library) → Gives aside (files ++ later) l → Gives aside (tree ∷ later) l
  gives_on later l k =
      let on = declared_on files later g.docs k.docs g.declared k.declared in
      record {
        docs = s.doc ∷ on.0;
        declared = more (s.declares aside) on.2;
        unoffended = λ file at o. k.unoffended (file + by) at (chain_back later file at o).1;
        is_library = library_on on.0 l (subst (λ ds. IsLibraryAfter ds l) on.1 k.is_library);
      }
