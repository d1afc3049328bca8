-- A chain of merged files, asked for the rules on its library, and with one file more.
use Rattle.std.proofs.Common.{◌≡◌, ◌+◌, ℕ, suc, Bool, List, [], ◌∷◌, ◌++◌, length, sym, ap, ◌∙◌, subst, arith, length-append}
use Rattle.std.specs.Prelude.{min}
use Rattle.odd_decls.specs.Declares.{Declares}
use Rattle.odd_decls.specs.Offences.{IsRefusal}
use Rattle.odd_library.specs.declared.library.Library.{Library}
use Rattle.odd_library.specs.declared.odd.OddDoc.{OddDoc}
use Rattle.odd_meaning.specs.Rules.{Breaks}
use Rattle.odd_modes.specs.After.{IsLibraryAfter}
use Rattle.odd_modes.specs.Offences.{IsFirstOffence, Offends}
use Rattle.odd_text.specs.Count.{last_count}
use Rattle.odd_text.specs.declared.key.Key.{Key}
use Rattle.odd_text.specs.declared.offence.Offence.{Offence}
use Rattle.odd_tree.specs.declared.tree.Tree.{Tree}
use Rattle.odd_chain.proofs.Asides.{asides_more}
use Rattle.odd_chain.proofs.Declared.{as_many, one_declared_more, one_docs}
use Rattle.odd_chain.proofs.Files.{docs_give, docs_refused, form_refused, whole}
use Rattle.odd_chain.proofs.MergedDocs.{HaveNone, asked_none, item_refused, library_refused, one_merged}
use Rattle.odd_chain.specs.Files.{AreDeclared, Gives, IsChainRefusal, all_asides}
use Rattle.odd_chain.specs.Reading.{AreMerged, IsFirstOfLibrary}
use Rattle.odd_chain.specs.declared.chain.Merged.{Merged}

module _ (aside : Bool) (trees : List Tree) (made : Merged) (m : AreMerged aside trees made) where
  abbrev library : Library
  library = made.library

  -- as many files are merged as there are docs
  many : made.files ≡ length m.docs
  many = m.numbered ∙ sym (as_many trees m.docs m.declared)

  -- the first rule that the library breaks is the first offence
  pub rule_refused : (offence : Offence) → IsFirstOfLibrary library made.files offence → IsChainRefusal aside trees offence
  rule_refused offence f =
      docs_refused trees m.docs (whole trees m.docs m.declared) offence (library_refused m.docs library m.merged offence (subst (λ n. IsFirstOfLibrary library n offence) many f))

  pub counted_of : (docs : List OddDoc) → AreDeclared aside trees docs → made.asides ≡ min (all_asides docs) last_count
  counted_of docs are = m.counted ∙ ap (λ ds. min (all_asides ds) last_count) (one_docs trees m.docs docs m.declared are)

  module _ (unbroken : (key : Key) (rule : ℕ) → Breaks library key rule → ⊥) where
    none : HaveNone m.docs
    none = asked_none m.docs library m.merged unbroken

    -- where it breaks none it is given
    pub gives_it : Gives aside trees library
    gives_it = docs_give trees m.docs library m.declared none m.merged.after

    module _ (t : Tree) (file : ℕ) (number : file ≡ suc (length trees)) where
      numbered : file ≡ suc (length m.docs)
      numbered = number ∙ ap suc (sym (as_many trees m.docs m.declared))

      -- one file more is refused for its form
      pub file_refused : (offence : Offence) → IsRefusal t aside file offence → IsChainRefusal aside (trees ++ t ∷ []) offence
      file_refused offence refused = form_refused trees t m.docs file offence m.declared none number refused

      -- for an item
      pub doc_refused : (doc : OddDoc) → Declares t aside doc → (offence : Offence) → IsFirstOffence (Offends library doc) file offence → IsChainRefusal aside (trees ++ t ∷ []) offence
      doc_refused doc declares offence f =
          let docs = m.docs ++ doc ∷ [] in
          let are = one_declared_more trees t m.docs doc m.declared declares in
          docs_refused (trees ++ t ∷ []) docs (whole (trees ++ t ∷ []) docs are) offence (item_refused m.docs doc library none m.merged.after file offence numbered f)

      -- or merged
      pub doc_merged : (doc : OddDoc) → Declares t aside doc → (next : Library) → ((place rule : ℕ) → Offends library doc place rule → ⊥)
          → ((docs : List OddDoc) → IsLibraryAfter docs library → IsLibraryAfter (docs ++ doc ∷ []) next) → (count : ℕ) → count ≡ min (made.asides + doc.asides) last_count
          → AreMerged aside (trees ++ t ∷ []) (record { library = next; files = file; asides = count })
      doc_merged doc declares next sound after count is = record {
        docs = m.docs ++ doc ∷ [];
        declared = one_declared_more trees t m.docs doc m.declared declares;
        merged = one_merged m.docs doc library none m.merged.after next sound (after m.docs m.merged.after);
        numbered = omega (arith, number, length-append trees (t ∷ []));
        counted = asides_more m.docs doc made.asides count m.counted is;
      }
