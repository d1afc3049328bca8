-- The first offence of a chain, by what its files declare, and its one outcome.
use Rattle.std.proofs.Common.{◌≡◌, ◌≤◌, ◌⊎◌, ⊎_elim, ℕ, suc, Bool, List, [], ◌∷◌, ◌++◌, length, inl, inr, refl, sym, ap, subst, ◌∙◌, append_assoc, arith, length-append, append-nil, ◌<◌}
use Rattle.std.specs.declared.cmp.Ordering.{Ordering}
use Rattle.std.specs.declared.cmp.Ordering.TheVariants.{Less, Equal, Greater}
use Rattle.odd_decls.proofs.ReadWith.{declared_sound}
use Rattle.odd_decls.specs.Declares.{Declares}
use Rattle.odd_decls.specs.Offences.{HasOffence, IsRefusal}
use Rattle.odd_text.proofs.SetOf.{turned}
use Rattle.odd_library.proofs.OffenceOrder.{neither_after}
use Rattle.odd_library.specs.declared.library.Library.{Library}
use Rattle.odd_library.specs.declared.odd.OddDoc.{OddDoc}
use Rattle.odd_meaning.specs.Rules.{IsNotBehind}
use Rattle.odd_modes.proofs.HeldEntries.{one_library}
use Rattle.odd_modes.specs.After.{IsLibraryAfter}
use Rattle.odd_text.specs.Key.{key_cmp}
use Rattle.odd_text.specs.KeyOrder.{key_exact, key_total}
use Rattle.odd_text.specs.declared.key.Key.{Key}
use Rattle.odd_text.specs.declared.offence.Offence.{Offence}
use Rattle.odd_text.proofs.InList.{nothing_stands}
use Rattle.odd_tree.specs.declared.tree.Tree.{Tree}
use Rattle.odd_chain.proofs.Declared.{DeclareFirst, as_many, first_declared, no_more_declared, one_docs, stands_after}
use Rattle.odd_chain.proofs.MergedDocs.{HaveNone, last_or_before, none_or_last, number_within, offends_more}
use Rattle.odd_chain.specs.Files.{AreDeclared, ChainOffends, Gives, IsChainRefusal, of_doc, of_form}
use Rattle.odd_chain.specs.Offences.{OffendsIn, of_item, of_library}
use Rattle.odd_chain.specs.Order.{ComesNotAfter, IsFirst, Position, form, IsNotLater, held, item, offence_at}

-- the docs up to one with an offence
record UpTo (docs : List OddDoc) (file : ℕ) (at : Position) : Type 0 where
  first : List OddDoc
  later : List OddDoc
  parts : docs ≡ first ++ later
  number : length first ≡ file
  offends : OffendsIn first file at

up_to : (docs : List OddDoc) (file : ℕ) (at : Position) → OffendsIn docs file at → UpTo docs file at
up_to docs _ _ (of_item before doc after library parts is offends) = record {
  first = before ++ doc ∷ [];
  later = after;
  parts = parts ∙ sym (append_assoc before (doc ∷ []) after);
  number = omega (arith, length-append {A = OddDoc});
  offends = of_item before doc [] library refl is offends;
}
up_to docs _ _ (of_library before doc after library parts is breaks) = record {
  first = before ++ doc ∷ [];
  later = after;
  parts = parts ∙ sym (append_assoc before (doc ∷ []) after);
  number = omega (arith, length-append {A = OddDoc});
  offends = of_library before doc [] library refl is breaks;
}

module _ {aside : Bool} where
  module _ (trees : List Tree) (docs : List OddDoc) (are : DeclareFirst aside trees docs) where
    -- what a doc offends by is an offence of the docs
    of_docs : (upto later : List Tree) (others : List OddDoc) (file : ℕ) (at : Position) → trees ≡ upto ++ later → AreDeclared aside upto others → OffendsIn others file at → OffendsIn docs file at
    of_docs upto later others file at e declared o =
        let made = no_more_declared are.files are.rest upto later docs others are.end are.declared declared (sym are.parts ∙ e) in
        offends_more docs others made.0 file at made.1 o

    -- and the other way round
    pub of_chain : (file : ℕ) (at : Position) → OffendsIn docs file at → ChainOffends aside trees file at
    of_chain file at o =
        let up = up_to docs file at o in
        let made = first_declared are.files docs up.first up.later are.declared up.parts in
        let number : length made.0 ≡ file = sym (as_many made.0 up.first made.3) ∙ up.number in
        let parts : trees ≡ made.0 ++ (made.1 ++ are.rest) = are.parts ∙ ap (λ ts. ts ++ are.rest) made.2 ∙ append_assoc made.0 made.1 are.rest in
        subst (λ n. ChainOffends aside trees n at) number (of_doc made.0 (made.1 ++ are.rest) up.first parts made.3 (subst (λ n. OffendsIn up.first n at) (sym number) up.offends))

    -- a file with an offence of form stands after those that declare the docs
    after_declared : (before later : List Tree) (t : Tree) (place rule : ℕ) → trees ≡ before ++ t ∷ later → HasOffence t aside place rule
        → (between : List Tree) × (before ≡ are.files ++ between) × (are.rest ≡ between ++ t ∷ later)
    after_declared before later t place rule e h =
        stands_after are.files are.rest before later docs t are.declared (λ doc d. declared_sound t aside doc d place rule h) (sym are.parts ∙ e)

    -- the number of a doc with an offence is at most the count of those files
    within_files : (file : ℕ) (at : Position) → OffendsIn docs file at → file ≤ length are.files
    within_files file at o = omega (arith, as_many are.files docs are.declared, number_within docs file at o)

    -- the first offence of the docs is that of the chain
    pub docs_refused : (o : Offence) → IsFirst (OffendsIn docs) o → IsChainRefusal aside trees o
    docs_refused o r = record { at = r.at; told = r.told; is_one = of_chain o.file r.at r.is_one; first = first }
      where
        first : (other : ℕ) (others : Position) → ChainOffends aside trees other others → ComesNotAfter o.file r.at other others
        first _ _ (of_form {place} {rule} before t later e h) =
            let made = after_declared before later t place rule e h in
            inl (omega (arith, within_files o.file r.at r.is_one, ap length made.1, length-append {A = Tree}))
        first _ _ (of_doc {at} upto later others e declared h) = r.first (length upto) at (of_docs upto later others (length upto) at e declared h)

  -- where all files declare docs
  abbrev pub whole : (trees : List Tree) (docs : List OddDoc) → AreDeclared aside trees docs → DeclareFirst aside trees docs
  whole trees docs are = record { files = trees; rest = []; parts = sym (append-nil trees); declared = are; end = λ t later doc e d. cc }

  -- and none of these has an offence, the library after them is given
  pub docs_give : (trees : List Tree) (docs : List OddDoc) (library : Library) → AreDeclared aside trees docs → ((file : ℕ) (at : Position) → OffendsIn docs file at → ⊥)
      → IsLibraryAfter docs library → Gives aside trees library
  docs_give trees docs library are sound after = record { docs = docs; declared = are; unoffended = unoffended; is_library = after }
    where
      unoffended : (file : ℕ) (at : Position) → ChainOffends aside trees file at → ⊥
      unoffended _ _ (of_form {place} {rule} before t later e h) =
          let made = after_declared trees docs (whole trees docs are) before later t place rule e h in
          nothing_stands t (made.0, later, made.2)
      unoffended _ _ (of_doc {at} upto later others e declared h) = sound (length upto) at (of_docs trees docs (whole trees docs are) upto later others (length upto) at e declared h)

  -- where the last file has an offence of form, and those before it declare docs that have none, its first one is that of the chain
  pub form_refused : (trees : List Tree) (t : Tree) (docs : List OddDoc) (file : ℕ) (o : Offence) → AreDeclared aside trees docs → HaveNone docs → file ≡ suc (length trees)
      → IsRefusal t aside file o → IsChainRefusal aside (trees ++ t ∷ []) o
  form_refused trees t docs file o are none number refused = record {
    at = at;
    told = λ n. record { file = o.file; who = refused.is_one.placed n; rule = o.rule };
    is_one = subst (λ n. ChainOffends aside (trees ++ t ∷ []) n at) (sym (refused.is_one.in_file ∙ number)) (of_form trees t [] refl refused.is_one.offends);
    first = first;
  }
    where
      at : Position
      at = form refused.is_one.place o.rule

      first_ones : DeclareFirst aside (trees ++ t ∷ []) docs
      first_ones = record {
        files = trees;
        rest = t ∷ [];
        parts = refl;
        declared = are;
        end = λ u later e doc d. (let same : u ≡ t = cc in declared_sound t aside doc (subst (λ x. Declares x aside doc) same d) refused.is_one.place o.rule refused.is_one.offends);
      }

      -- another offence of form is of the same file
      own : (before between later : List Tree) (u : Tree) (place rule : ℕ) → before ≡ trees ++ between → t ∷ [] ≡ between ++ u ∷ later → HasOffence u aside place rule
          → ComesNotAfter o.file at (suc (length before)) (form place rule)
      own before [] later u place rule e is h =
          let number : o.file ≡ suc (length before) = omega (arith, refused.is_one.in_file, number, ap length e, length-append {A = Tree}) in
          let same : u ≡ t = cc in
          inr (number, refused.first place rule (subst (λ x. HasOffence x aside place rule) same h))
      own before (v ∷ []) later u place rule e is h = absurd cc
      own before (v ∷ w ∷ between) later u place rule e is h = absurd cc

      first : (other : ℕ) (others : Position) → ChainOffends aside (trees ++ t ∷ []) other others → ComesNotAfter o.file at other others
      first _ _ (of_form {place} {rule} before u later e h) =
          let made = after_declared (trees ++ t ∷ []) docs first_ones before later u place rule e h in
          own before made.0 later u place rule made.1 made.2 h
      first _ _ (of_doc {at} upto later others e declared h) =
          absurd (none (length upto) at (of_docs (trees ++ t ∷ []) docs first_ones upto later others (length upto) at e declared h))

  -- an offence of files with one more is one of theirs, or that of a file behind them
  theirs_or_behind : (trees : List Tree) (t : Tree) (file : ℕ) (at : Position) → ChainOffends aside (trees ++ t ∷ []) file at → ChainOffends aside trees file at ⊎ (length trees < file)
  theirs_or_behind trees t _ _ (of_form earlier u later parts h) = ⊎_elim
      (λ last. inr (omega (arith, ap length last.1)))
      (λ more. inl (of_form earlier u more.0 more.1 h))
      (last_or_before trees earlier later t u parts)
  theirs_or_behind trees t _ _ (of_doc {at} upto later docs parts are o) = by (none_or_last later)
    where
      by : (later ≡ []) ⊎ ((before : List Tree) × (x : Tree) × (later ≡ before ++ x ∷ [])) → ChainOffends aside trees (length upto) at ⊎ (length trees < length upto)
      by (inl none) =
          let all : trees ++ t ∷ [] ≡ upto = parts ∙ ap (λ ts. upto ++ ts) none ∙ append-nil upto in
          inr (omega (arith, ap length all, length-append trees (t ∷ [])))
      by (inr last) =
          let shown : trees ++ t ∷ [] ≡ (upto ++ last.0) ++ last.1 ∷ [] = parts ∙ ap (λ ts. upto ++ ts) last.2 ∙ sym (append_assoc upto last.0 (last.1 ∷ [])) in
          ⊎_elim
          (λ same. inl (of_doc upto last.0 docs same.1 are o))
          (λ more. absurd (omega (arith, ap length more.2, length-append more.0 (t ∷ []))))
          (last_or_before trees (upto ++ last.0) [] t last.1 shown)

  -- the number of an offence is that of a file
  number_of_file : (trees : List Tree) (file : ℕ) (at : Position) → ChainOffends aside trees file at → file ≤ length trees
  number_of_file trees _ _ (of_form earlier u later parts h) = omega (arith, ap length parts, length-append earlier (u ∷ later))
  number_of_file trees _ _ (of_doc upto later docs parts are o) = omega (arith, ap length parts, length-append upto later)

  -- the first offence of files is that of these and one more
  pub refused_more : (trees : List Tree) (t : Tree) (o : Offence) → IsChainRefusal aside trees o → IsChainRefusal aside (trees ++ t ∷ []) o
  refused_more trees t o r = record {
    at = r.at;
    told = r.told;
    is_one = stays o.file r.at r.is_one;
    first = λ other others h. ⊎_elim (λ theirs. r.first other others theirs) (λ behind. inl (omega (arith, behind, number_of_file trees o.file r.at r.is_one))) (theirs_or_behind trees t other others h);
  }
    where
      stays : (file : ℕ) (at : Position) → ChainOffends aside trees file at → ChainOffends aside (trees ++ t ∷ []) file at
      stays _ _ (of_form earlier u later parts h) = of_form earlier u (later ++ t ∷ []) (ap (λ ts. ts ++ t ∷ []) parts ∙ append_assoc earlier (u ∷ later) (t ∷ [])) h
      stays _ _ (of_doc upto later docs parts are h) = of_doc upto (later ++ t ∷ []) docs (ap (λ ts. ts ++ t ∷ []) parts ∙ append_assoc upto later (t ∷ [])) are h

-- where neither of two keys with a rule comes after the other, they are one
neither_behind : (r s : ℕ) (k l : Key) → IsNotBehind r k s l → IsNotBehind s l r k → (r ≡ s) × (k ≡ l)
neither_behind r s k l (inl a) (inl b) = absurd (omega (arith, a, b))
neither_behind r s k l (inl a) (inr b) = let e = b.0 in absurd (omega (arith, a, e))
neither_behind r s k l (inr a) (inl b) = let e = a.0 in absurd (omega (arith, b, e))
neither_behind r s k l (inr a) (inr b) = (a.0, by_order (key_cmp k l) refl)
  where
    by_order : (o : Ordering) → key_cmp k l ≡ o → k ≡ l
    by_order Less e = absurd (b.1 (turned key_cmp key_total l k Less e))
    by_order Equal e = key_exact k l e
    by_order Greater e = absurd (a.1 e)

-- neither of two positions is later than the other where they are told as one
neither_later : (file : ℕ) (a b : Position) → IsNotLater a b → IsNotLater b a → offence_at file a ≡ offence_at file b
neither_later file (form p r) (form q s) h k = let same = neither_after p r q s h k in λ n. offence_at file (form (same.0 n) (same.1 n))
neither_later file (form p r) (item q s) h k = absurd k
neither_later file (form p r) (held l s) h k = absurd k
neither_later file (item p r) (form q s) h k = absurd h
neither_later file (item p r) (item q s) h k = let same = neither_after p r q s h k in λ n. offence_at file (item (same.0 n) (same.1 n))
neither_later file (item p r) (held l s) h k = absurd k
neither_later file (held j r) (form q s) h k = absurd h
neither_later file (held j r) (item q s) h k = absurd h
neither_later file (held j r) (held l s) h k = let same = neither_behind r s j l h k in λ n. offence_at file (held (same.1 n) (same.0 n))

-- of two first offences neither comes after the other
one_first : (file other : ℕ) (a b : Position) → ComesNotAfter file a other b → ComesNotAfter other b file a → offence_at file a ≡ offence_at other b
one_first file other a b (inl h) (inl k) = absurd (omega (arith, h, k))
one_first file other a b (inl h) (inr k) = absurd (omega (arith, h, k.0))
one_first file other a b (inr h) (inl k) = absurd (omega (arith, h.0, k))
one_first file other a b (inr h) (inr k) = neither_later file a b h.1 k.1 ∙ ap (λ n. offence_at n b) h.0

module _ {aside : Bool} where
  -- a chain is refused with one offence
  pub one_chain_refusal : (trees : List Tree) (o p : Offence) → IsChainRefusal aside trees o → IsChainRefusal aside trees p → o ≡ p
  one_chain_refusal trees o p a b = a.told ∙ one_first o.file p.file a.at b.at (a.first p.file b.at b.is_one) (b.first o.file a.at a.is_one) ∙ sym b.told

  -- gives one library
  pub gives_one : (trees : List Tree) (l m : Library) → Gives aside trees l → Gives aside trees m → l ≡ m
  gives_one trees l m g h = one_library h.docs l m (subst (λ ds. IsLibraryAfter ds l) (one_docs trees g.docs h.docs g.declared h.declared) g.is_library) h.is_library

  -- which it does not where it is refused
  pub refused_gives_none : (trees : List Tree) (o : Offence) (l : Library) → IsChainRefusal aside trees o → Gives aside trees l → ⊥
  refused_gives_none trees o l r g = g.unoffended o.file r.at r.is_one
