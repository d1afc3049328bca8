-- The attributes that an `attList` lists: those of an `attList` in it are read as if they stood in it.
use Rattle.std.specs.Prelude.{◌≡◌, Bool, true, false, List, [], ◌∷◌, ◌++◌, codes}
use Rattle.odd_tree.specs.Elements.{children_of}
use Rattle.odd_tree.specs.declared.tree.Tree.{Tree}
use Rattle.odd_forms.specs.Names.{is_one_of}

abbrev pub is_definition : Tree → Bool
is_definition t = is_one_of (codes "attDef" ∷ []) t

abbrev pub is_list : Tree → Bool
is_list t = is_one_of (codes "attList" ∷ []) t

mutual
  -- these are the `attDef` of an `attList` and of those in it, in document order
  pub data Lists : Tree → List Tree → Type 0 where
    list : {t : Tree} {defs : List Tree} → ListsAmong (children_of t) defs → Lists t defs

  pub data ListsAmong : List Tree → List Tree → Type 0 where
    nothing : ListsAmong [] []
    definition : {t : Tree} {ts defs : List Tree} → is_definition t ≡ true → ListsAmong ts defs → ListsAmong (t ∷ ts) (t ∷ defs)
    nested : {t : Tree} {ts inner later defs : List Tree} → is_definition t ≡ false → is_list t ≡ true → Lists t inner → ListsAmong ts later → defs ≡ inner ++ later
        → ListsAmong (t ∷ ts) defs
    other : {t : Tree} {ts defs : List Tree} → is_definition t ≡ false → is_list t ≡ false → ListsAmong ts defs → ListsAmong (t ∷ ts) defs
