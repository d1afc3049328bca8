-- The text of a printable grammar denotes the grammar.
use Rattle.std.proofs.Common.{◌≡◌, ℕ, true, List, [], ◌∷◌, map, sym, ap, ◌∙◌, Some, refl}
use Rattle.std.proofs.lemmas.Bool.{and_parts}
use Rattle.std.proofs.lemmas.Cmp.{nat_list_cmp_total}
use Rattle.std.proofs.lemmas.List.Elements.{All-cons}
use Rattle.std.proofs.lemmas.Option.{same_Some}
use Rattle.std.specs.Cmp.{tied_itself}
use Rattle.std.specs.FinMap.{is_sorted}
use Rattle.std.specs.FinMap.Entries.{below_all}
use Rattle.std.specs.Ordering.{is_lt}
use Rattle.std.specs.Prelude.{IsTrue, All, codes, unwrap_or}
use Rattle.std.specs.declared.cmp.Ordering.TheVariants.{Equal}
use Rattle.odd_printing.proofs.PrintedSpelled.{printed_spells}
use Rattle.odd_text.specs.Text.{text_cmp}
use Rattle.odd_tokens.proofs.Characters.{Distinct, Lacks, none_twice}
use Rattle.odd_tokens.specs.Tokens.{NoneTwice}
use Rattle.odd_tree.proofs.PrintedTrees.{Shows, binds_to}
use Rattle.odd_tree.specs.Elements.{given}
use Rattle.odd_tree.specs.Markup.{Pair, all_of, element}
use Rattle.odd_tree.specs.declared.tree.Tree.{Tree}
use Rattle.rng_grammar.proofs.OneGrammar.{one_denoted}
use Rattle.rng_grammar.specs.Denoting.{entry_of, Denotes, DenotesOnly, StandsFor, parts_of}
use Rattle.rng_grammar.specs.Linked.{names_of}
use Rattle.rng_grammar.specs.Names.{datatype_library, relax_ng_namespace}
use Rattle.rng_grammar.specs.declared.grammar.Define.{Define}
use Rattle.rng_grammar.specs.declared.grammar.Grammar.{Grammar}
use Rattle.rng_emit.proofs.Printable.{IsPrintable}
use Rattle.rng_emit.proofs.Shapes.{grammar_parts, grammar_plain, grammar_tag, relax_ng_bound}
use Rattle.rng_emit.proofs.Shown.{AreShown, IsShown, is_part, shown, value_in, Allows, no_attribute, start_shown}
use Rattle.rng_emit.proofs.ShownBodies.{defines_shown}
use Rattle.rng_emit.specs.Grammar.{grammar_text}

-- no name is below itself
not_below : (name other : List ℕ) → IsTrue (is_lt (text_cmp name other)) → other ≡ name → ⊥
not_below name other h e =
    let same : text_cmp name name ≡ Equal = tied_itself nat_list_cmp_total name in
    let less : is_lt (text_cmp name name) ≡ true = ap (λ n. is_lt (text_cmp name n)) (sym e) ∙ h in
    cc

-- so a name below all others is none of them
below_lacks : (name : List ℕ) (ds : List Define) → below_all text_cmp name (map entry_of ds) ≡ true → Lacks name (names_of ds)
below_lacks name [] h = tt
below_lacks name (d ∷ ds) h = (not_below name d.name (and_parts _ _ h).0, below_lacks name ds (and_parts _ _ h).1)

-- and no name stands twice
rising_distinct : (ds : List Define) → IsTrue (is_sorted text_cmp (map entry_of ds)) → Distinct (names_of ds)
rising_distinct [] h = tt
rising_distinct (d ∷ ds) h = (below_lacks d.name ds (and_parts _ _ h).0, rising_distinct ds (and_parts _ _ h).1)

pub rising_once : (ds : List Define) → IsTrue (is_sorted text_cmp (map entry_of ds)) → NoneTwice (names_of ds)
rising_once ds h = none_twice (names_of ds) (rising_distinct ds h)

-- the attribute of the root
abbrev root_attributes : List Pair
root_attributes = (codes "datatypeLibrary", datatype_library) ∷ []

-- the attributes that a `grammar` may have
abbrev allowed : List (List ℕ)
allowed = codes "ns" ∷ codes "datatypeLibrary" ∷ []

root_allowed : All (Allows allowed) root_attributes
root_allowed = All-cons (Allows allowed) (codes "datatypeLibrary", datatype_library) [] (codes "ns" ∷ [], [], refl) (no_attribute allowed)

-- the parts of the tree are the start and the defines
parts_stand : (g : Grammar) (t : Tree) → IsPrintable g → IsShown (codes "grammar") root_attributes (grammar_parts g) t → (ts : List Tree) → parts_of t ≡ ts → AreShown (grammar_parts g) ts
    → StandsFor t g
parts_stand g t p h [] e s = absurd s
parts_stand g t p h (u ∷ us) e s =
    let known : given t (codes "datatypeLibrary") ≡ Some datatype_library = value_in (codes "grammar") root_attributes t (codes "datatypeLibrary") h.head in
    record {
      is_part = is_part _ _ _ allowed t h root_allowed;
      datatypes = λ value v. same_Some _ _ (sym v ∙ known);
      has_datatypes = λ h. known;
      start = u;
      before = [];
      after = us;
      parts = e;
      is_start = start_shown g.start u p.start s.0;
      defines = g.defines;
      are_defines = defines_shown (unwrap_or (given t (codes "ns")) []) g.defines us p.defines s.1;
      once = rising_once g.defines p.rising;
      rising = p.rising;
      same = λ name. refl;
      linked = p.linked;
      sorted = p.sorted;
    }

-- a tree that shows the grammar's elements stands for it
pub stands : (g : Grammar) (t : Tree) → IsPrintable g → Shows relax_ng_namespace (binds_to relax_ng_namespace) (element (codes "grammar") root_attributes (all_of (grammar_parts g))) t → StandsFor t g
stands g t p s =
    let h = shown (binds_to relax_ng_namespace) (codes "grammar") root_attributes (grammar_parts g) t s in
    parts_stand g t p h (parts_of t) refl h.parts

-- and the text spells such a tree
pub denoted : (g : Grammar) → IsPrintable g → Denotes (grammar_text g) g
denoted g p =
    let read = printed_spells relax_ng_namespace (codes "grammar") root_attributes (all_of (grammar_parts g)) relax_ng_bound grammar_tag (grammar_plain g p) in
    record { tree = read.0; spelled = read.1; stands = stands g read.0 p read.2 }

-- so the text denotes the grammar, and no other
pub denoted_only : (g : Grammar) → IsPrintable g → DenotesOnly (grammar_text g) g
denoted_only g p = record { denoted = denoted g p; only = λ other h. one_denoted (grammar_text g) other g h (denoted g p) }
