-- The text that is printed of a formed library gives a tree that declares it.
use Rattle.std.proofs.Common.{◌≡◌, ℕ, Bool, List, [], ◌∷◌, map, refl, arith}
use Rattle.std.specs.Prelude.{codes}
use Rattle.odd_tokens.proofs.Ascii.{ascii_legal}
use Rattle.odd_text.specs.declared.key.Key.{Key}
use Rattle.odd_tree.specs.Spelled.{GivesTree}
use Rattle.odd_tree.specs.declared.tree.Tree.{Tree}
use Rattle.odd_tree.proofs.PrintedTrees.{IsNamespace, IsPlain, apart, binds_to}
use Rattle.odd_tree.specs.Names.{xml_namespace, xmlns_namespace}
use Rattle.odd_decls.specs.Declares.{Declares}
use Rattle.odd_forms.specs.Names.{tei_namespace}
use Rattle.odd_forms.specs.declared.element.Element.TheVariants as kind
use Rattle.odd_library.specs.Formed.{IsFormedLibrary}
use Rattle.odd_library.specs.declared.library.Component.{Component}
use Rattle.odd_library.specs.declared.library.Library.{Library}
use Rattle.odd_library.specs.declared.odd.OddDoc.{OddDoc}
use Rattle.odd_modes.specs.After.{IsLibraryAfter}
use Rattle.odd_printing.proofs.PrintedSpelled.{printed_spells}
use Rattle.odd_reader.proofs.Formed.{spelled_formed}
use Rattle.odd_tree.specs.Markup.{all_of}
use Rattle.odd_emit.specs.Components.{entry_markup, merged_odd}
use Rattle.odd_emit.specs.Saying.{pairs_of}
use Rattle.merged_laws.proofs.Depth.{gives_tree, root_flat}
use Rattle.merged_laws.proofs.Entries.{AreFormedParts, library_parts}
use Rattle.merged_laws.proofs.Held.{AreEntriesFor}
use Rattle.merged_laws.proofs.MergedFile.{declares, doc, entries_for, is_after, parts_other, root_said, root_says, shown_markup}
use Rattle.merged_laws.proofs.DeclarationsRead.{component_plain}
use Rattle.merged_laws.proofs.Says.{says_plain}
use Rattle.merged_laws.proofs.Told.{AllOf}

-- TEI's namespace may be declared
tei_bound : IsNamespace tei_namespace
tei_bound = record { legal = ascii_legal tei_namespace refl; xml = apart tei_namespace xml_namespace refl; reserved = apart tei_namespace xmlns_namespace refl }

-- the text gives a tree, and the tree declares one doc, after which the library is this one
pub record IsMerged (library : Library) (bytes : List ℕ) : Type 0 where
  pub tree : Tree
  pub gives : GivesTree bytes tree
  pub doc : OddDoc
  pub declares : (aside : Bool) → Declares tree aside doc
  pub ident : doc.ident ≡ library.ident
  pub start : doc.start ≡ library.start
  pub entries : AreEntriesFor doc.entries library.parts
  pub asides : doc.asides ≡ 0
  pub after : IsLibraryAfter (doc ∷ []) library

all_plain : (es : List (Key × Component)) → AreFormedParts es → AllOf IsPlain (map entry_markup es)
all_plain [] f = tt
all_plain (e ∷ es) f = (component_plain e.0.kind e.0.ident e.1 f.0.0 f.0.1, all_plain es f.1)

pub is_merged : (library : Library) → IsFormedLibrary library → IsMerged library (merged_odd library)
is_merged library f =
    let plain = says_plain kind.SchemaSpec (root_said library) (map entry_markup library.parts) (root_says library f) (all_plain library.parts (library_parts library f)) in
    let read = printed_spells tei_namespace (codes "schemaSpec") (pairs_of (root_said library)) (all_of (map entry_markup library.parts)) tei_bound plain.0 plain.1 in
    let formed = spelled_formed (merged_odd library) read.0 read.1 in
    record {
      tree = read.0;
      gives = gives_tree (merged_odd library) 65 read.0 (omega arith) (root_flat (binds_to tei_namespace) 65 (shown_markup library) read.0 (omega arith) (parts_other library.parts (library_parts library f)) read.2) read.1;
      doc = doc library read.0 f read.2;
      declares = λ aside. declares library read.0 f read.2 aside 0 _ formed;
      ident = refl;
      start = refl;
      entries = entries_for library read.0 f read.2;
      asides = refl;
      after = is_after library read.0 f read.2;
    }
