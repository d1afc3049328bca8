-- The docs that files declare, one after another.
use Rattle.std.proofs.Common.{◌≡◌, suc, Bool, List, [], ◌∷◌, ◌++◌, length, refl, ap, subst}
use Rattle.odd_decls.proofs.OneDeclared.{one_doc}
use Rattle.odd_decls.specs.Declares.{Declares}
use Rattle.odd_library.specs.declared.odd.OddDoc.{OddDoc}
use Rattle.odd_tree.specs.declared.tree.Tree.{Tree}
use Rattle.odd_chain.specs.Files.{AreDeclared, more, none}

-- the file declares no doc
abbrev pub DeclaresNone : Bool → Tree → Type 0
DeclaresNone aside t = (doc : OddDoc) → Declares t aside doc → ⊥

-- the first of the files, where there is one, declares none
abbrev pub BeginWithNone : Bool → List Tree → Type 0
BeginWithNone aside files = (t : Tree) (later : List Tree) → files ≡ t ∷ later → DeclaresNone aside t

-- of the files the first ones declare the docs, and the next, where there is one, declares none
pub record DeclareFirst (aside : Bool) (trees : List Tree) (docs : List OddDoc) : Type 0 where
  pub files : List Tree
  pub rest : List Tree
  pub parts : trees ≡ files ++ rest
  pub declared : AreDeclared aside files docs
  pub end : BeginWithNone aside rest

module _ {aside : Bool} where
  -- one file more declares its doc
  pub one_declared_more : (trees : List Tree) (t : Tree) (docs : List OddDoc) (doc : OddDoc) → AreDeclared aside trees docs → Declares t aside doc → AreDeclared aside (trees ++ t ∷ []) (docs ++ doc ∷ [])
  one_declared_more trees t docs doc none d = more d none
  one_declared_more trees t docs doc (more {trees = rest} {docs = others} e are) d = more e (one_declared_more rest t others doc are d)

  -- there are as many docs as files
  pub as_many : (trees : List Tree) (docs : List OddDoc) → AreDeclared aside trees docs → length docs ≡ length trees
  as_many trees docs none = refl
  as_many trees docs (more {trees = rest} {docs = others} d are) = ap suc (as_many rest others are)

  -- files declare one list of docs
  pub one_docs : (trees : List Tree) (docs others : List OddDoc) → AreDeclared aside trees docs → AreDeclared aside trees others → docs ≡ others
  one_docs trees docs others none none = refl
  one_docs trees docs others (more {t = t} {trees = rest} {doc = a} {docs = before} d are) (more {doc = b} {docs = after} e also) = cc (one_doc t a b d e, one_docs rest before after are also)

  -- the first of the docs are declared by as many files
  pub first_declared : (trees : List Tree) (docs upto later : List OddDoc) → AreDeclared aside trees docs → docs ≡ upto ++ later
      → (files : List Tree) × (others : List Tree) × (trees ≡ files ++ others) × AreDeclared aside files upto
  first_declared trees docs [] later are e = ([], trees, refl, none)
  first_declared trees docs (doc ∷ upto) later none e = absurd cc
  first_declared trees docs (doc ∷ upto) later (more {t = t} {trees = rest} {doc = first} {docs = others} d are) e =
      let made = first_declared rest others upto later are cc in
      let same : first ≡ doc = cc in
      (t ∷ made.0, made.1, ap (λ ts. t ∷ ts) made.2, more (subst (Declares t aside) same d) made.3)

  -- then no more files declare docs from the first on
  pub no_more_declared : (files rest upto later : List Tree) (docs others : List OddDoc) → BeginWithNone aside rest → AreDeclared aside files docs → AreDeclared aside upto others
      → files ++ rest ≡ upto ++ later → (between : List OddDoc) × (docs ≡ others ++ between)
  no_more_declared files rest upto later docs others end are none e = (docs, refl)
  no_more_declared files rest upto later docs others end none (more {t = t} {trees = ts} {doc = doc} d also) e = absurd (end t (ts ++ later) e doc d)
  no_more_declared files rest upto later docs others end (more {t = t} {trees = ts} {doc = a} {docs = before} d are) (more {t = u} {trees = us} {doc = b} {docs = after} f also) e =
      let made = no_more_declared ts rest us later before after end are also cc in
      let same : t ≡ u = cc in
      let docs : a ≡ b = one_doc u a b (subst (λ x. Declares x aside a) same d) f in
      (made.0, cc (docs, made.1))

  -- a file that declares none stands after those that declare docs
  pub stands_after : (files rest before later : List Tree) (docs : List OddDoc) (t : Tree) → AreDeclared aside files docs → DeclaresNone aside t → files ++ rest ≡ before ++ t ∷ later
      → (between : List Tree) × (before ≡ files ++ between) × (rest ≡ between ++ t ∷ later)
  stands_after files rest before later docs t none idle e = (before, refl, e)
  stands_after files rest [] later docs t (more {t = u} {doc = doc} d are) idle e = let same : u ≡ t = cc in absurd (idle doc (subst (λ x. Declares x aside doc) same d))
  stands_after files rest (v ∷ before) later docs t (more {t = u} {trees = ts} {docs = others} d are) idle e =
      let made = stands_after ts rest before later others t are idle cc in
      let same : u ≡ v = cc in
      (made.0, cc (same, made.1), made.2)
