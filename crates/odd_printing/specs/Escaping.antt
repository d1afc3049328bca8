-- What an escaped text is read as: between the tags of an element, and as an attribute's value in double quotes (XML 1.0, sections 2.4 and 3.3.3).
use Rattle.std.specs.Prelude.{◌≡◌, ◌≢◌, ℕ, List, [], ◌∷◌, ◌++◌, codes}
use Rattle.odd_tree.specs.declared.tree.Node.{Text}
use Rattle.odd_tree.specs.declared.tree.Tree.{Tree, out-Tree}
use Rattle.odd_tree.specs.Spelled.{Spells}

-- what is written stands for the text between tags: an element with nothing else in it has the one text as its child, and no child where the text is empty
pub record IsTextOf (written text : List ℕ) : Type 0 where
  pub tree : Tree
  pub spelled : Spells (codes "<a>" ++ written ++ codes "</a>") tree
  pub one : text ≢ [] → (out-Tree tree).children ≡ Text text ∷ []
  pub none : text ≡ [] → (out-Tree tree).children ≡ []

-- what is written stands for the value in double quotes: a tag with it as its one attribute `b` has that attribute, of no namespace and of this value, and no other
pub record IsValueOf (written value : List ℕ) : Type 0 where
  pub tree : Tree
  pub spelled : Spells (codes "<a b=\"" ++ written ++ codes "\"/>") tree
  pub attributes : (out-Tree tree).attrs ≡ record { name = record { ns = []; local = codes "b" }; value = value } ∷ []
