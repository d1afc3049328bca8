-- A chain whose files say the same in another order as those of a chain without an offence has none, and the same library comes of it.
use Rattle.std.proofs.Common.{◌≡◌, ℕ, suc, Bool, true, false, List, [], ◌∷◌, ◌++◌, length, ⊎_elim, refl, sym, ap, subst}
use Rattle.std.proofs.lemmas.Bool.{false≢true}
use Rattle.odd_text.proofs.InList.{first_or_later, nothing_stands, stands_first, stands_later}
use Rattle.odd_text.specs.Standing.{StandsIn}
use Rattle.odd_tree.specs.Formed.{IsFormed}
use Rattle.odd_tree.specs.declared.tree.Tree.{Tree}
use Rattle.odd_library.specs.declared.library.Library.{Library}
use Rattle.odd_library.specs.declared.odd.OddDoc.{OddDoc}
use Rattle.odd_decls.proofs.ReadWith.{formed_read}
use Rattle.odd_decls.specs.Aside.{IsReadOf}
use Rattle.odd_decls.specs.Declares.{Declares}
use Rattle.odd_items.specs.Groups.{schema_names}
use Rattle.odd_decls.specs.Offences.{HasOffence}
use Rattle.odd_chain.specs.Files.{AreDeclared, ChainOffends, Gives}
use Rattle.odd_chain.specs.Files as files
use Rattle.odd_chain.specs.Offences.{OffendsIn}
use Rattle.odd_chain.specs.Order.{Position}
use Rattle.order_laws.specs.AlikeDocs.{AreAlike, AreAllAlike}
use Rattle.order_laws.specs.AlikeDocs as docs
use Rattle.order_laws.specs.Reordered.{IsReordered}
use Rattle.order_laws.specs.Reorderings.{AreReorderings, none, more}
use Rattle.order_laws.proofs.AsideThere.{read_made, read_there}
use Rattle.order_laws.proofs.DocOffences.{all_turned, alike_reversed, offence_there}
use Rattle.order_laws.proofs.DocMade.{doc_made}
use Rattle.order_laws.proofs.DocsThere.{docs_there}
use Rattle.order_laws.proofs.HeldThere.{same_library}
use Rattle.order_laws.proofs.OffendsThere.{unoffended_there}
use Rattle.order_laws.proofs.OnceEach.{HasOneOfEach, once_each}
use Rattle.order_laws.proofs.Pairing.{IsPairing, pairing}
use Rattle.order_laws.proofs.PairsProofs.{paired}

-- a tree of a whole file is formed
abbrev pub IsFormedFile : Tree → Type 0
IsFormedFile t = (end : ℕ) × IsFormed 0 end t

abbrev pub AreFormedFiles : List Tree → Type 0
AreFormedFiles trees = (t : Tree) → StandsIn trees t → IsFormedFile t

-- those after the first are formed
later_formed : (t : Tree) (trees : List Tree) → AreFormedFiles (t ∷ trees) → AreFormedFiles trees
later_formed t trees formed u s = formed u (stands_later t u trees s)

-- what is read of two files that say the same in another order is paired, and as many constraints are taken out
record ReadPaired (r s : Tree) (m n : ℕ) : Type 0 where
  pairs : List (Tree × Tree)
  is : IsPairing (λ x y. StandsIn pairs (x, y)) r s
  asides : m ≡ n

read_paired : (aside : Bool) {t u r s : Tree} {m n : ℕ} → IsFormedFile t → IsFormedFile u → IsReordered t u → (aside ≡ true → HasOneOfEach t) → IsReadOf t aside r m → IsReadOf u aside s n
    → ReadPaired r s m n
read_paired aside {t = t} {u = u} {r = r} {s = s} {m = m} {n = n} formed other_formed reordering each one other =
    let same = read_there aside formed.1 other_formed.1 reordering each one other in
    let p = paired same.0 in
    record {
      pairs = p.0;
      is = pairing (formed_read 0 formed.0 t r aside m formed.1 one) (formed_read 0 other_formed.0 u s aside n other_formed.1 other) p.1;
      asides = same.1;
    }

-- a file that declares a doc, read without its constraints, has one `schemaSpec` at most and of each id one group
once_of : (aside : Bool) {t : Tree} {doc : OddDoc} → Declares t aside doc → aside ≡ true → HasOneOfEach t
once_of true d is = once_each d.is_read d.declares.unoffended
once_of false d is = absurd (false≢true is)

-- a file has no offence where one declares a doc that says the same in another order
file_unoffended : (aside : Bool) {t u : Tree} {doc : OddDoc} → IsFormedFile t → IsFormedFile u → IsReordered t u → Declares t aside doc → (place rule : ℕ) → HasOffence u aside place rule → ⊥
file_unoffended aside formed other_formed reordering d place rule o =
    let p = read_paired aside formed other_formed reordering (once_of aside d) d.is_read o.is_read in
    unoffended_there p.is d.declares.unoffended place rule o.offends

-- and where it declares a doc, that differs in the places of items alone
docs_alike : (aside : Bool) {t u : Tree} {doc other : OddDoc} → IsFormedFile t → IsFormedFile u → IsReordered t u → Declares t aside doc → Declares u aside other → AreAlike doc other
docs_alike aside formed other_formed reordering d e =
    let p = read_paired aside formed other_formed reordering (once_of aside d) d.is_read e.is_read in
    docs_there p.is d.declares e.declares p.asides

-- and it declares one
doc_there : (aside : Bool) {t u : Tree} {doc : OddDoc} → IsFormedFile t → IsFormedFile u → IsReordered t u → Declares t aside doc → (other : OddDoc) × Declares u aside other
doc_there aside {t = t} {u = u} {doc = doc} formed other_formed reordering d =
    let read = read_made aside formed.1 other_formed.1 reordering (once_of aside d) d.is_read in
    let p = paired read.2 in
    let is_formed = formed_read 0 formed.0 t d.read aside doc.asides formed.1 d.is_read in
    let there_formed = formed_read 0 other_formed.0 u read.0 aside doc.asides other_formed.1 read.1 in
    let both = pairing is_formed there_formed p.1 in
    let schemas = both.finds schema_names false d.declares.schemas d.declares.found in
    let made = doc_made both is_formed there_formed d.declares schemas.0 schemas.1 in
    (made.0, record { read = read.0; is_read = subst (IsReadOf u aside read.0) (sym made.2) read.1; declares = made.1 })

-- each file of a chain says the same as one that declares a doc
record HasDeclared (aside : Bool) (u : Tree) : Type 0 where
  tree : Tree
  doc : OddDoc
  formed : IsFormedFile tree
  reordering : IsReordered tree u
  declares : Declares tree aside doc

declared_beside : {aside : Bool} {trees others : List Tree} {docs : List OddDoc} → AreFormedFiles trees → AreReorderings trees others → AreDeclared aside trees docs → (u : Tree) → StandsIn others u
    → HasDeclared aside u
declared_beside formed none declared u s = absurd (nothing_stands u s)
declared_beside formed (more {t = t} {u = v} {ts = ts} {us = us} r rest) (files.more {doc = doc} d ds) u s =
    ⊎_elim (λ e. record { tree = t; doc = doc; formed = formed t (stands_first t ts); reordering = subst (IsReordered t) (sym e) r; declares = d })
    (λ later. declared_beside (later_formed t ts formed) rest ds u later) (first_or_later v u us s)

-- the first files of a chain, whose docs are alike
record AlikeUpto (aside : Bool) (trees upto : List Tree) (found : List OddDoc) : Type 0 where
  first : List Tree
  later : List Tree
  docs : List OddDoc
  parts : trees ≡ first ++ later
  as_many : length first ≡ length upto
  declared : AreDeclared aside first docs
  alike : AreAllAlike docs found

alike_upto : {aside : Bool} {trees others upto : List Tree} (later : List Tree) {docs found : List OddDoc} → AreFormedFiles trees → AreFormedFiles others → AreReorderings trees others → AreDeclared aside trees docs
    → others ≡ upto ++ later → AreDeclared aside upto found → AlikeUpto aside trees upto found
alike_upto {trees = trees} later formed other_formed r d is files.none =
    record { first = []; later = trees; docs = []; parts = refl; as_many = refl; declared = files.none; alike = docs.none }
alike_upto later formed other_formed none d is (files.more e es) = absurd (cc is)
alike_upto {aside = aside} later formed other_formed (more {t = t} {u = u} {ts = ts} {us = us} r rest) (files.more d ds) is (files.more {t = v} {trees = upto} {doc = other} {docs = found} e es) =
    let same : v ≡ u = cc is in
    let rests : us ≡ upto ++ later = cc is in
    let k = alike_upto later (later_formed t ts formed) (later_formed u us other_formed) rest ds rests es in
    let one = docs_alike aside (formed t (stands_first t ts)) (other_formed u (stands_first u us)) r d (subst (λ x. Declares x aside other) same e) in
    record {
      first = t ∷ k.first;
      later = k.later;
      docs = _ ∷ k.docs;
      parts = ap (λ xs. t ∷ xs) k.parts;
      as_many = ap suc k.as_many;
      declared = files.more d k.declared;
      alike = docs.more one k.alike;
    }

-- and so are all of them
all_alike : {aside : Bool} {trees others : List Tree} {docs found : List OddDoc} → AreFormedFiles trees → AreFormedFiles others → AreReorderings trees others → AreDeclared aside trees docs
    → AreDeclared aside others found → AreAllAlike docs found
all_alike formed other_formed none files.none files.none = docs.none
all_alike {aside = aside} formed other_formed (more {t = t} {u = u} {ts = ts} {us = us} r rest) (files.more d ds) (files.more e es) =
    docs.more (docs_alike aside (formed t (stands_first t ts)) (other_formed u (stands_first u us)) r d e) (all_alike (later_formed t ts formed) (later_formed u us other_formed) rest ds es)

-- and each of the others declares one
all_made : {aside : Bool} {trees others : List Tree} {docs : List OddDoc} → AreFormedFiles trees → AreFormedFiles others → AreReorderings trees others → AreDeclared aside trees docs
    → (found : List OddDoc) × AreDeclared aside others found
all_made formed other_formed none files.none = ([], files.none)
all_made {aside = aside} formed other_formed (more {t = t} {u = u} {ts = ts} {us = us} r rest) (files.more d ds) =
    let one = doc_there aside (formed t (stands_first t ts)) (other_formed u (stands_first u us)) r d in
    let later = all_made (later_formed t ts formed) (later_formed u us other_formed) rest ds in
    (one.0 ∷ later.0, files.more one.1 later.1)

module _ {aside : Bool} {trees others : List Tree} {library : Library} (formed : AreFormedFiles trees) (other_formed : AreFormedFiles others) (reorderings : AreReorderings trees others)
    (g : Gives aside trees library) where
  -- the other chain has no offence
  pub reordered_unoffended : (file : ℕ) (at : Position) → ChainOffends aside others file at → ⊥
  reordered_unoffended file at (files.of_form {place = place} {rule = rule} earlier u later parts o) =
      let s : StandsIn others u = (earlier, later, parts) in
      let h = declared_beside formed reorderings g.declared u s in
      file_unoffended aside h.formed (other_formed u s) h.reordering h.declares place rule o
  reordered_unoffended file at (files.of_doc upto later found parts declared o) =
      let k = alike_upto later formed other_formed reorderings g.declared parts declared in
      let there = offence_there (length upto) at (all_turned k.alike) o in
      g.unoffended (length k.first) there.0
      (files.of_doc k.first k.later k.docs k.parts k.declared (subst (λ n. OffendsIn k.docs n there.0) (sym k.as_many) there.1))

  -- and gives the library
  pub reordered_gives : Gives aside others library
  reordered_gives =
      let made = all_made formed other_formed reorderings g.declared in
      record {
        docs = made.0;
        declared = made.1;
        unoffended = reordered_unoffended;
        is_library = same_library library (alike_reversed (all_alike formed other_formed reorderings g.declared made.1)) g.is_library;
      }
