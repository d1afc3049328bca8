-- The names of elements and of attributes in documents (TEI Guidelines, the chapter Documentation Elements; Namespaces in XML 1.0, section 3).
use Rattle.std.specs.Prelude.{ℕ, List, [], codes, drop, length, take, if◌then◌else◌, unwrap_or}
use Rattle.odd_text.specs.declared.name.Name.{Name}
use Rattle.odd_text.specs.Same.{is_same}
use Rattle.odd_tree.specs.Names.{xml_namespace}
use Rattle.odd_attributes.specs.declared.att_def.AttDef.{AttDef}
use Rattle.odd_library.specs.declared.library.ElementPart.{ElementPart}

-- its `altIdent`, and where there is none its ident, in its namespace
abbrev pub element_name : List ℕ → ElementPart → Name
element_name ident part = record { ns = part.ns; local = unwrap_or part.alt ident }

-- what is written before the local name of an attribute of XML
abbrev pub xml_prefix : List ℕ
xml_prefix = codes "xml:"

-- a text that begins with `xml:` names an attribute of XML, and any other one of the namespace
abbrev pub name_written : List ℕ → List ℕ → Name
name_written ns text =
    if is_same (take (length xml_prefix) text) xml_prefix then record { ns = xml_namespace; local = drop (length xml_prefix) text } else record { ns = ns; local = text }

-- its `altIdent`, and where there is none its ident; without a namespace of its own it is in none
abbrev pub attribute_name : List ℕ → AttDef → Name
attribute_name ident def = name_written (unwrap_or def.ns []) (unwrap_or def.alt ident)
