-- The library after docs, and the first offence of docs with one more.
use Rattle.std.proofs.Common.{◌≡◌, suc, List, [], ◌∷◌, ◌++◌, length, ⊎_elim, refl, ap, subst, ◌⊎◌, ◌≤◌, ℕ, inl, inr, sym, ◌∙◌, arith, length-append, append_assoc, append-nil, rules}
use Rattle.odd_library.specs.Library.{IsEmptyLibrary}
use Rattle.odd_library.specs.declared.library.Library.{Library}
use Rattle.odd_library.specs.declared.odd.OddDoc.{OddDoc}
use Rattle.odd_meaning.specs.Rules.{Breaks}
use Rattle.odd_modes.proofs.HeldEntries.{one_library}
use Rattle.odd_modes.specs.After.{IsLibraryAfter}
use Rattle.odd_modes.specs.Offences.{IsFirstOffence, Offends}
use Rattle.odd_text.specs.declared.key.Key.{Key}
use Rattle.odd_text.specs.declared.offence.Offence.{Offence}
use Rattle.odd_chain.proofs.NothingBroken.{nothing_breaks}
use Rattle.odd_chain.specs.Offences.{OffendsIn, of_item, of_library}
use Rattle.odd_chain.specs.Order.{ComesNotAfter, IsFirst, Position, IsNotLater, form, held, item}
use Rattle.odd_chain.specs.Reading.{IsFirstOfLibrary, IsMerged, IsOfLast}

module _ {X : Type 0} where
  -- what stands among items with one more is that one, or stands among them
  pub last_or_before : (xs before later : List X) (x y : X) → xs ++ x ∷ [] ≡ before ++ y ∷ later
      → ((later ≡ []) × (xs ≡ before) × (x ≡ y)) ⊎ ((rest : List X) × (xs ≡ before ++ y ∷ rest) × (later ≡ rest ++ x ∷ []))
  last_or_before [] [] later x y e = inl (cc, refl, cc)
  last_or_before [] (z ∷ []) later x y e = absurd cc
  last_or_before [] (z ∷ w ∷ before) later x y e = absurd cc
  last_or_before (z ∷ xs) [] later x y e = inr (xs, cc, cc)
  last_or_before (z ∷ xs) (w ∷ before) later x y e =
      let first : z ≡ w = cc in
      ⊎_elim (λ last. inl (last.0, cc (first, last.1), last.2)) (λ more. inr (more.0, cc (first, more.1), more.2)) (last_or_before xs before later x y cc)

  -- items are none, or there is a last
  pub none_or_last : (xs : List X) → (xs ≡ []) ⊎ ((before : List X) × (x : X) × (xs ≡ before ++ x ∷ []))
  none_or_last [] = inl refl
  none_or_last (x ∷ xs) = ⊎_elim (λ e. inr ([], x, ap (λ l. x ∷ l) e)) (λ last. inr (x ∷ last.0, last.1, ap (λ l. x ∷ l) last.2)) (none_or_last xs)

-- none of the docs has an offence
abbrev pub HaveNone : List OddDoc → Type 0
HaveNone docs = (file : ℕ) (at : Position) → OffendsIn docs file at → ⊥

-- the number of an offence is that of a doc
pub number_within : (docs : List OddDoc) (file : ℕ) (at : Position) → OffendsIn docs file at → file ≤ length docs
number_within docs _ _ (of_item earlier doc later library parts before offends) = omega (arith, ap length parts, length-append earlier (doc ∷ later))
number_within docs _ _ (of_library earlier doc later library parts after breaks) = omega (arith, ap length parts, length-append earlier (doc ∷ later))

-- an offence of docs is one of these and more
pub offends_more : (docs upto later : List OddDoc) (file : ℕ) (at : Position) → docs ≡ upto ++ later → OffendsIn upto file at → OffendsIn docs file at
offends_more docs upto later _ _ e (of_item before doc after library parts is offends) =
    of_item before doc (after ++ later) library (e ∙ ap (λ ds. ds ++ later) parts ∙ append_assoc before (doc ∷ after) later) is offends
offends_more docs upto later _ _ e (of_library before doc after library parts is breaks) =
    of_library before doc (after ++ later) library (e ∙ ap (λ ds. ds ++ later) parts ∙ append_assoc before (doc ∷ after) later) is breaks

-- of no doc
pub empty_merged : (library : Library) → IsEmptyLibrary library → IsMerged [] library
empty_merged library empty = record {
  after = search rules;
  of_last = λ file at o. absurd (none file at o);
}
  where
    none : (file : ℕ) (at : Position) → OffendsIn [] file at → ⊥
    none _ _ (of_item earlier doc later library parts before offends) = absurd (omega (arith, ap length parts, length-append earlier (doc ∷ later)))
    none _ _ (of_library earlier doc later library parts after breaks) = absurd (omega (arith, ap length parts, length-append earlier (doc ∷ later)))

-- what a library after all docs breaks
last_breaks : (docs : List OddDoc) (library : Library) (file : ℕ) (key : Key) (rule : ℕ) → IsLibraryAfter docs library → OffendsIn docs file (held key rule) → file ≡ length docs
    → Breaks library key rule
last_breaks docs library _ key rule after (of_library earlier doc later other parts is breaks) e = by later parts
  where
    by : (rest : List OddDoc) → docs ≡ earlier ++ doc ∷ rest → Breaks library key rule
    by [] p = subst (λ l. Breaks l key rule) (one_library docs other library (subst (λ ds. IsLibraryAfter ds other) (sym p) is) after) breaks
    by (d ∷ rest) p = absurd (omega (arith, e, ap length p, length-append earlier (doc ∷ d ∷ rest)))

module _ (docs : List OddDoc) (library : Library) (m : IsMerged docs library) where
  -- where the library breaks no rule
  pub asked_none : ((key : Key) (rule : ℕ) → Breaks library key rule → ⊥) → HaveNone docs
  asked_none unbroken file (form place rule) o = m.of_last file (form place rule) o
  asked_none unbroken file (item place rule) o = m.of_last file (item place rule) o
  asked_none unbroken file (held key rule) o = unbroken key rule (last_breaks docs library file key rule m.after o (m.of_last file (held key rule) o))

  -- the first rule that it breaks is their first offence
  pub library_refused : (offence : Offence) → IsFirstOfLibrary library (length docs) offence → IsFirst (OffendsIn docs) offence
  library_refused offence f = record {
    at = held f.key offence.rule;
    told = λ n. record { file = offence.file; who = f.placed n; rule = offence.rule };
    is_one = subst (λ n. OffendsIn docs n (held f.key offence.rule)) (sym f.in_file) (is_one (none_or_last docs));
    first = first;
  }
    where
      is_one : (docs ≡ []) ⊎ ((before : List OddDoc) × (doc : OddDoc) × (docs ≡ before ++ doc ∷ [])) → OffendsIn docs (length docs) (held f.key offence.rule)
      is_one (inl none) = absurd (nothing_breaks library (subst (λ ds. IsLibraryAfter ds library) none m.after).holds f.key offence.rule f.is_first.is_one)
      is_one (inr last) =
          let number : suc (length last.0) ≡ length docs = omega (arith, ap length last.2, length-append last.0 (last.1 ∷ [])) in
          subst (λ n. OffendsIn docs n (held f.key offence.rule)) number
          (of_library last.0 last.1 [] library last.2 (subst (λ ds. IsLibraryAfter ds library) last.2 m.after) f.is_first.is_one)

      first : (other : ℕ) (others : Position) → OffendsIn docs other others → ComesNotAfter offence.file (held f.key offence.rule) other others
      first other (form place rule) o = absurd (m.of_last other (form place rule) o)
      first other (item place rule) o = absurd (m.of_last other (item place rule) o)
      first other (held key rule) o =
          let number = m.of_last other (held key rule) o in
          inr (f.in_file ∙ sym number, f.is_first.first key rule (last_breaks docs library other key rule m.after o number))

module _ (docs : List OddDoc) (doc : OddDoc) where
  -- what a doc more itself breaks: an item of it, or the library after it
  abbrev Own : Position → Type 0
  Own (form place rule) = ⊥
  Own (item place rule) = (library : Library) × IsLibraryAfter docs library × Offends library doc place rule
  Own (held key rule) = (made : Library) × IsLibraryAfter (docs ++ doc ∷ []) made × Breaks made key rule

  -- an offence of docs with one more is one of theirs, or its own
  theirs_or_own : (file : ℕ) (at : Position) → OffendsIn (docs ++ doc ∷ []) file at → OffendsIn docs file at ⊎ ((file ≡ suc (length docs)) × Own at)
  theirs_or_own _ _ (of_item {place} {rule} earlier other later library parts before offends) = ⊎_elim
      (λ last. inr (
        ap (λ ds. suc (length ds)) (sym last.1),
        (library, subst (λ ds. IsLibraryAfter ds library) (sym last.1) before, subst (λ d. Offends library d place rule) (sym last.2) offends),
      ))
      (λ more. inl (of_item earlier other more.0 library more.1 before offends))
      (last_or_before docs earlier later doc other parts)
  theirs_or_own _ _ (of_library {key} {rule} earlier other later library parts after breaks) = ⊎_elim
      (λ last. inr (
        ap (λ ds. suc (length ds)) (sym last.1),
        (library, subst (λ ds. IsLibraryAfter ds library) (cc (last.1, last.2)) after, breaks),
      ))
      (λ more. inl (of_library earlier other more.0 library more.1 after breaks))
      (last_or_before docs earlier later doc other parts)

  -- their first offence is that of all
  pub first_more : (offence : Offence) → IsFirst (OffendsIn docs) offence → IsFirst (OffendsIn (docs ++ doc ∷ [])) offence
  first_more offence r = record {
    at = r.at;
    told = r.told;
    is_one = offends_more (docs ++ doc ∷ []) docs (doc ∷ []) offence.file r.at refl r.is_one;
    first = λ other others o. ⊎_elim (λ theirs. r.first other others theirs) (λ own. inl (omega (arith, own.0, number_within docs offence.file r.at r.is_one))) (theirs_or_own other others o);
  }

  module _ (library : Library) (none : HaveNone docs) (after : IsLibraryAfter docs library) where
    -- where its items have no offence, those of all are of the library after it
    pub one_merged : (made : Library) → ((place rule : ℕ) → Offends library doc place rule → ⊥) → IsLibraryAfter (docs ++ doc ∷ []) made → IsMerged (docs ++ doc ∷ []) made
    one_merged made sound is = record {
      after = is;
      of_last = λ file at o. ⊎_elim (λ theirs. absurd (none file at theirs)) (λ own. by file at own.0 own.1) (theirs_or_own file at o);
    }
      where
        by : (file : ℕ) (at : Position) → file ≡ suc (length docs) → Own at → IsOfLast (length (docs ++ doc ∷ [])) file at
        by file (form place rule) e own = own
        by file (item place rule) e own = sound place rule (subst (λ l. Offends l doc place rule) (one_library docs own.0 library own.1 after) own.2)
        by file (held key rule) e own = omega (arith, e, length-append docs (doc ∷ []))

    -- the first offence of its items is that of all
    pub item_refused : (file : ℕ) (offence : Offence) → file ≡ suc (length docs) → IsFirstOffence (Offends library doc) file offence → IsFirst (OffendsIn (docs ++ doc ∷ [])) offence
    item_refused file offence e f = record {
      at = item f.place offence.rule;
      told = λ n. record { file = offence.file; who = f.placed n; rule = offence.rule };
      is_one = subst (λ n. OffendsIn (docs ++ doc ∷ []) n (item f.place offence.rule)) (sym (f.in_file ∙ e)) (of_item docs doc [] library refl after f.is_first.is_one);
      first = λ other others o. ⊎_elim (λ theirs. absurd (none other others theirs)) (λ own. inr (f.in_file ∙ e ∙ sym own.0, by others own.1)) (theirs_or_own other others o);
    }
      where
        by : (others : Position) → Own others → IsNotLater (item f.place offence.rule) others
        by (form place rule) own = absurd own
        by (item place rule) own = f.is_first.first place rule (subst (λ l. Offends l doc place rule) (one_library docs own.0 library own.1 after) own.2)
        by (held key rule) own = tt

-- the first offence of docs is that of these and more
pub first_of_more : (docs later : List OddDoc) (offence : Offence) → IsFirst (OffendsIn docs) offence → IsFirst (OffendsIn (docs ++ later)) offence
first_of_more docs [] offence r = subst (λ ds. IsFirst (OffendsIn ds) offence) (sym (append-nil docs)) r
first_of_more docs (doc ∷ later) offence r =
    subst (λ ds. IsFirst (OffendsIn ds) offence) (append_assoc docs (doc ∷ []) later) (first_of_more (docs ++ doc ∷ []) later offence (first_more docs doc offence r))
