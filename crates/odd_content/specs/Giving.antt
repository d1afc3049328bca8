-- The content model that a `content` says (TEI Guidelines, the chapter Documentation Elements), by recursion on its tree.
use Rattle.std.specs.Prelude.{◌≡◌, ℕ, List, [], ◌∷◌, ◌++◌, ◌&&◌, map, find, flat_map, Option, Some, None, codes, unwrap_or}
use Rattle.odd_text.specs.declared.name.Bind.{Bind}
use Rattle.odd_text.specs.declared.name.Name.{Name}
use Rattle.odd_text.specs.Same.{is_same}
use Rattle.odd_tree.specs.Elements.{attribute_value, within}
use Rattle.odd_tree.specs.declared.tree.Attr.{Attr}
use Rattle.odd_tree.specs.declared.tree.Node.{Node, Node-F, fold-Node}
use Rattle.odd_tree.specs.declared.tree.Node.TheOpen.{Element, Text}
use Rattle.odd_tree.specs.declared.tree.Tree.{Tree, Tree-F, out-Tree}
use Rattle.rng_types.specs.declared.item.Item.{Item}
use Rattle.odd_forms.specs.Names.{tei_namespace}
use Rattle.odd_forms.specs.Table.{form_at}
use Rattle.odd_forms.specs.Tags.{Tag}
use Rattle.odd_text.specs.Same.{is_among}
use Rattle.odd_forms.specs.Words.{words_of}
use Rattle.odd_forms.specs.declared.element.Element.{Element as Kind}
use Rattle.odd_forms.specs.declared.element.Element.TheVariants as kind
use Rattle.odd_content.specs.Items.{item_in}
use Rattle.odd_content.specs.Occurrence.{bounds_in}
use Rattle.odd_content.specs.Values.{list_in}
use Rattle.odd_content.specs.Condition.{condition_of}
use Rattle.odd_content.specs.declared.content.Content.{Content}
use Rattle.odd_content.specs.declared.content.Content.TheVariants as content
use Rattle.odd_content.specs.declared.content.Pick.{Pick}
use Rattle.odd_content.specs.declared.content.Pick.TheVariants as pick

-- which part of a content an element of the name is, if it is one
abbrev pub part_named : Name → Option Kind
part_named name = find (λ e. is_same name.ns tei_namespace && is_among ((form_at e).name ∷ []) name.local) ((form_at kind.Content).many ++ (form_at kind.Content).once)

-- the ident that a reference gives
abbrev pub key_in : List Attr → List ℕ
key_in attrs = unwrap_or (attribute_value attrs (codes "key")) []

-- Which elements a reference names, by the words of `include` and those of `except`: one without a word is as if it were absent.
abbrev pub pick_of : List (List ℕ) → List (List ℕ) → Pick
pick_of [] [] = pick.All
pick_of [] (word ∷ words) = pick.Except (word ∷ words)
pick_of (word ∷ words) excepted = pick.Include (word ∷ words)

abbrev pub words_in : List Attr → List ℕ → List (List ℕ)
words_in attrs local = words_of (unwrap_or (attribute_value attrs local) [])

abbrev pub pick_in : List Attr → Pick
pick_in attrs = pick_of (words_in attrs (codes "include")) (words_in attrs (codes "except"))

abbrev pub pick_given : Tree → Pick
pick_given t = pick_in (out-Tree t).attrs

-- an item is data, where one is said
abbrev pub value_content : Option Item → Content
value_content None = content.Empty
value_content (Some item) = content.Value item

-- the content of a part with these attributes, children and parts, under the declarations in force in it
abbrev pub part_content : Kind → List Bind → List Attr → List Tag → List Content → Content
part_content kind.TextNode binds attrs children parts = content.Text
part_content kind.DataRef binds attrs children parts = value_content (item_in attrs children)
part_content kind.ValList binds attrs children parts = content.Vals (list_in attrs children)
part_content kind.ElementRef binds attrs children parts = content.Element (key_in attrs) (bounds_in attrs)
part_content kind.ClassRef binds attrs children parts = content.Class (key_in attrs) (pick_in attrs) (bounds_in attrs)
part_content kind.MacroRef binds attrs children parts = content.Macro (key_in attrs) (bounds_in attrs)
part_content kind.AnyElement binds attrs children parts =
    content.Any (condition_of binds (words_in attrs (codes "require")) (words_in attrs (codes "except"))) (bounds_in attrs)
part_content kind.Sequence binds attrs children parts = content.Sequence parts (bounds_in attrs)
part_content kind.Alternate binds attrs children parts = content.Alternate parts (bounds_in attrs)
part_content other binds attrs children parts = content.Empty

-- what is no part gives nothing
abbrev pub given_by : Option Kind → List Bind → List Attr → List Tag → List Content → List Content
given_by None binds attrs children parts = []
given_by (Some e) binds attrs children parts = part_content e binds attrs children parts ∷ []

-- what a child of an element gives: its tag, where it is an element, and one content or none under the declarations around it
pub record Given : Type 0 where
  pub tags : List Tag
  pub contents : List Bind → List Content

-- what several children give
abbrev pub all_tags : List Given → List Tag
all_tags given = flat_map (λ (g : Given). g.tags) given

abbrev pub all_contents : List Given → List Bind → List Content
all_contents given around = flat_map (λ (g : Given). g.contents around) given

abbrev pub node_gives : Node-F Given Given → Given
node_gives (Element given) = given
node_gives (Text text) = record { tags = []; contents = λ around. [] }

abbrev pub tree_gives : Tree-F Given Given → Given
tree_gives t = record {
  tags = record { name = t.name; attrs = t.attrs } ∷ [];
  contents = λ around. given_by (part_named t.name) (around ++ t.binds) t.attrs (all_tags t.children) (all_contents t.children (around ++ t.binds));
}

-- the parts among nodes
abbrev pub parts_in : List Bind → List Node → List Content
parts_in around nodes = all_contents (map (fold-Node Given Given node_gives tree_gives) nodes) around

-- the content of several parts is a sequence, and that of none is empty
abbrev pub joined_parts : List Content → Content
joined_parts [] = content.Empty
joined_parts (part ∷ []) = part
joined_parts (part ∷ next ∷ parts) = content.Sequence (part ∷ next ∷ parts) (record { min = 1; max = Some 1 })

-- the content model that a `content` says, under the declarations around it
abbrev pub content_of : List Bind → Tree → Content
content_of around t = joined_parts (parts_in (within around t) (out-Tree t).children)

-- it is the content model that a `content` says
abbrev pub IsContentOf : List Bind → Tree → Content → Type 0
IsContentOf around t made = made ≡ content_of around t
