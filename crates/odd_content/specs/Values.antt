-- What a `valList` says (TEI Guidelines, the chapter Documentation Elements): in one that is set each value stands but those that are deleted, and in one that
-- is changed a value that is changed does nothing.
use Rattle.std.specs.Prelude.{ℕ, Bool, true, ◌&&◌, not, List, [], Option, Some, None, if◌then◌else◌, codes, unwrap_or}
use Rattle.std.specs.FinMap.{put}
use Rattle.std.specs.List.{fold}
use Rattle.std.specs.Option.{option_map}
use Rattle.odd_text.specs.Text.{text_cmp}
use Rattle.odd_text.specs.Same.{is_same}
use Rattle.odd_tree.specs.Elements.{attribute_value}
use Rattle.odd_tree.specs.declared.tree.Attr.{Attr}
use Rattle.odd_tree.specs.declared.tree.Tree.{Tree, out-Tree}
use Rattle.rng_types.specs.declared.val_list.ListKind.{ListKind}
use Rattle.rng_types.specs.declared.val_list.ListKind.TheVariants as kind
use Rattle.rng_types.specs.declared.val_list.ValList.{ValList}
use Rattle.rng_values.specs.Treated.{collapsed_text}
use Rattle.odd_overlay.specs.Marks.{words_laid}
use Rattle.odd_forms.specs.Tags.{Tag, is_tagged, tags_in}

-- the `mode` is this word; where none is given it is `add`
abbrev pub has_mode : List ℕ → List Attr → Bool
has_mode word attrs = is_same (unwrap_or (attribute_value attrs (codes "mode")) (codes "add")) word

-- the type of a list, where it gives one
abbrev pub kind_named : List ℕ → ListKind
kind_named word = if is_same word (codes "closed") then kind.Closed else if is_same word (codes "semi") then kind.Semi else kind.Open

abbrev pub kind_in : List Attr → Option ListKind
kind_in attrs = option_map kind_named (attribute_value attrs (codes "type"))

-- the value that a child names, where it is a `valItem`
abbrev pub value_tagged : Tag → Option (List ℕ)
value_tagged tag = if is_tagged (codes "valItem") tag then option_map collapsed_text (attribute_value tag.attrs (codes "ident")) else None

-- the value that a child marks, in a list that is set or changed: one that is changed does nothing in a list that is
abbrev pub value_marked : Bool → Tag → Option (List ℕ)
value_marked is_set tag = if not is_set && has_mode (codes "change") tag.attrs then None else value_tagged tag

-- it puts its value in, where it is not deleted
abbrev pub puts : Tag → Bool
puts tag = not (has_mode (codes "delete") tag.attrs)

-- the marks with that of a value
abbrev pub with_mark : Option (List ℕ) → Bool → List (List ℕ × Bool) → List (List ℕ × Bool)
with_mark None is_put marks = marks
with_mark (Some value) is_put marks = put text_cmp value is_put marks

-- with that of a child, in a list that is set or changed
abbrev pub with_value : Bool → List (List ℕ × Bool) → Tag → List (List ℕ × Bool)
with_value is_set marks tag = if not is_set && has_mode (codes "change") tag.attrs then marks else with_mark (value_tagged tag) (puts tag) marks

-- the values that the children put in and take out
abbrev pub marks_in : Bool → List Tag → List (List ℕ × Bool)
marks_in is_set children = fold (with_value is_set) [] children

-- a list that is set: open, where it gives no type
abbrev pub list_in : List Attr → List Tag → ValList
list_in attrs children = record { kind = unwrap_or (kind_in attrs) kind.Open; values = words_laid (marks_in true children) [] }

abbrev pub list_given : Tree → ValList
list_given t = list_in (out-Tree t).attrs (tags_in t)
