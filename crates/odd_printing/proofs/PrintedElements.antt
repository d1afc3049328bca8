-- The tokens of a printed element and of the lines in it, and the tree that they are.
use Rattle.std.proofs.Common.{◌≡◌, ℕ, ◌+◌, Bool, List, [], ◌∷◌, ◌++◌, map, sym, refl, ap, ap₂, ◌∙◌, append_assoc, append-nil, codes, subst, false}
use Rattle.std.proofs.lemmas.Str.{encodes-append}
use Rattle.std.specs.Str.{encode_utf8_all}
use Rattle.odd_text.specs.declared.name.Bind.{Bind}
use Rattle.odd_tokens.proofs.Ascii.{ascii_codes}
use Rattle.odd_tokens.specs.Characters.{IsLegal, is_char}
use Rattle.odd_tokens.specs.Tokens.{Token, start_tag, empty_tag, end_tag, name_written, tag_written, token_written, tokens_written, size_of, character, IsToken}
use Rattle.odd_tree.proofs.Fits.{Inside, around, Ready, FitAfter, inside_after, tag_opened, start_fits, empty_fits, end_fits, fit_append, bytes_of, bytes-append, balanced_append}
use Rattle.odd_tree.proofs.PrintedTrees.{attr_of, bind_of, binds_to, HasHead, text_nodes, IsPlain, ArePlain, line_break, Shows, AreLines}
use Rattle.odd_tree.specs.Fitting.{IsBalanced, AreOpen, Fits}
use Rattle.odd_tree.specs.Fitting as Fitting
use Rattle.odd_tree.specs.Markup.{Pair, escaped_text, attributes_printed, declaration, Markup, element, line, declaring, Markups, none, more, printed, all_printed}
use Rattle.odd_tree.specs.Names.{binds_of}
use Rattle.odd_tree.specs.Trees.{HasTag, IsElement, IsContent, empty, full, with_text, child}
use Rattle.odd_tree.specs.Trees as Trees
use Rattle.odd_tree.specs.declared.tree.Node.{Node, Element, Text}
use Rattle.odd_tree.specs.declared.tree.Tree.{Tree, roll-Tree, out-Tree}
use Rattle.odd_printing.proofs.PrintedCharacters.{text_token, text_written, text_balanced, text_fits, text_content}
use Rattle.odd_printing.proofs.PrintedPrefixes.{declaring_tag_spelled}
use Rattle.odd_printing.proofs.PrintedTags.{TagSpelled, plain_tag_spelled}
use Rattle.odd_printing.proofs.Shapes.{attributes_append}

-- what an element is written as, without the line break after it, and what it is
pub record ElementSpelled (is_root : Bool) (ns : List ℕ) (at : ℕ) (bytes : List ℕ) (Is : Tree → Type 0) : Type 0 where
  pub tree : Tree
  pub tokens : List Token
  pub written : bytes_of tokens ++ codes "\n" ≡ bytes
  pub is_element : IsElement (around is_root (binds_to ns)) at tokens tree
  pub balanced : IsBalanced tokens
  pub fit : (before : List Token) → Ready is_root (binds_to ns) before → FitAfter before tokens
  pub shows : Is tree

pub record ContentSpelled (ns : List ℕ) (at : ℕ) (bytes : List ℕ) (Are : List Node → Type 0) : Type 0 where
  pub nodes : List Node
  pub tokens : List Token
  pub written : bytes_of tokens ≡ bytes
  pub is_content : IsContent (binds_to ns) at tokens nodes
  pub balanced : IsBalanced tokens
  pub fit : (before : List Token) → Inside (binds_to ns) before → FitAfter before tokens
  pub are : Are nodes

-- the bytes of a tag

wrapped : (a b c bytes : List ℕ) → encode_utf8_all a ≡ a → encode_utf8_all c ≡ c → encode_utf8_all b ≡ bytes → encode_utf8_all (a ++ b ++ c) ≡ a ++ bytes ++ c
wrapped a b c bytes p q r = rw (encodes-append (a ++ b) c, encodes-append a b, p, q, r) refl

module _ (is_root : Bool) (ns : List ℕ) (binds : List Bind) (name : List ℕ) (pairs attributes : List Pair) (s : TagSpelled is_root ns binds name pairs attributes) (at : ℕ) where
  abbrev tree_with : List Node → Tree
  tree_with children = roll-Tree (record { name = record { ns = ns; local = name }; attrs = map attr_of attributes; binds = binds; children = children; at = at })

  has_tag : (children : List Node) → HasTag (around is_root (binds_to ns)) at s.tag (tree_with children)
  has_tag children = record {
    named = rw s.bound s.named;
    attributed = rw s.bound s.attributed;
    bound = sym s.bound;
    placed = refl;
  }

  has_head : (children : List Node) → HasHead ns name attributes (tree_with children)
  has_head children = record { named = refl; attributed = refl }

  -- an empty element

  empty_written : bytes_of (empty_tag s.tag ∷ []) ++ codes "\n" ≡ codes "<" ++ name ++ attributes_printed pairs ++ codes "/>\n"
  empty_written =
      let tag = wrapped (codes "<") (tag_written s.tag) (codes "/>") (name ++ attributes_printed pairs) (ascii_codes (codes "<") refl) (ascii_codes (codes "/>") refl) s.written in
      ap (λ z. z ++ codes "\n") (ap encode_utf8_all (append-nil (token_written (empty_tag s.tag))) ∙ tag) ∙ simp append_assoc

  pub empty_spelled : ElementSpelled is_root ns at (codes "<" ++ name ++ attributes_printed pairs ++ codes "/>\n")
      (λ t. HasHead ns name attributes t × ((out-Tree t).children ≡ []) × ((out-Tree t).binds ≡ binds))
  empty_spelled = record {
    tree = tree_with [];
    tokens = empty_tag s.tag ∷ [];
    written = empty_written;
    is_element = empty (has_tag []) refl;
    balanced = Fitting.piece refl Fitting.nothing;
    fit = λ before r. (empty_fits is_root (binds_to ns) s.tag before s.is_tag s.names_fit r, tt);
    shows = (has_head [], refl, refl);
  }

  -- an element with its content

  abbrev start_bytes : List ℕ
  start_bytes = codes "<" ++ (name ++ attributes_printed pairs) ++ codes ">"

  start_written : encode_utf8_all (token_written (start_tag s.tag)) ≡ start_bytes
  start_written = wrapped (codes "<") (tag_written s.tag) (codes ">") (name ++ attributes_printed pairs) (ascii_codes (codes "<") refl) (ascii_codes (codes ">") refl) s.written

  abbrev end_bytes : List ℕ
  end_bytes = codes "</" ++ name ++ codes ">"

  end_written : encode_utf8_all (token_written (end_tag s.tag.name [])) ≡ end_bytes
  end_written =
      ap (λ z. encode_utf8_all (z ++ codes ">")) (append-nil (codes "</" ++ name_written s.tag.name))
      ∙ wrapped (codes "</") (name_written s.tag.name) (codes ">") name (ascii_codes (codes "</") refl) (ascii_codes (codes ">") refl) s.name_is_written

  abbrev pub inside_at : ℕ
  inside_at = at + size_of (token_written (start_tag s.tag))

  module _ (bytes : List ℕ) (Are : List Node → Type 0) (same : around is_root (binds_to ns) ++ binds ≡ binds_to ns) (c : ContentSpelled ns inside_at bytes Are) where
    abbrev end : Token
    end = end_tag s.tag.name []

    abbrev pub full_bytes : List ℕ
    full_bytes = codes "<" ++ name ++ attributes_printed pairs ++ codes ">" ++ bytes ++ codes "</" ++ name ++ codes ">\n"

    tokens_are : bytes_of (start_tag s.tag ∷ (c.tokens ++ end ∷ [])) ≡ start_bytes ++ (bytes ++ end_bytes)
    tokens_are =
        encodes-append (token_written (start_tag s.tag)) (tokens_written (c.tokens ++ end ∷ []))
        ∙ ap₂ (λ (x y : List ℕ). x ++ y) start_written
        (bytes-append c.tokens (end ∷ []) ∙ ap₂ (λ (x y : List ℕ). x ++ y) c.written (ap encode_utf8_all (append-nil (token_written end)) ∙ end_written))

    full_written : bytes_of (start_tag s.tag ∷ (c.tokens ++ end ∷ [])) ++ codes "\n" ≡ full_bytes
    full_written = ap (λ z. z ++ codes "\n") tokens_are ∙ simp append_assoc

    -- in it the default namespace alone is bound
    bound_inside : around is_root (binds_to ns) ++ binds_of s.tag.attributes ≡ binds_to ns
    bound_inside = ap (λ own. around is_root (binds_to ns) ++ own) s.bound ∙ same

    full_fits : (before : List Token) → Ready is_root (binds_to ns) before → FitAfter before (start_tag s.tag ∷ (c.tokens ++ end ∷ []))
    full_fits before r =
        let i = tag_opened is_root (binds_to ns) s.tag before bound_inside r in (
          start_fits is_root (binds_to ns) s.tag before s.is_tag s.names_fit r,
          fit_append (before ++ start_tag s.tag ∷ []) c.tokens (end ∷ []) (c.fit (before ++ start_tag s.tag ∷ []) i.0)
              (end_fits (binds_to ns) s.tag ((before ++ start_tag s.tag ∷ []) ++ c.tokens) s.is_tag (inside_after i.0 c.balanced) i.1, tt),
        )

    pub full_spelled : ElementSpelled is_root ns at full_bytes (λ t. HasHead ns name attributes t × Are (out-Tree t).children × ((out-Tree t).binds ≡ binds))
    full_spelled = record {
      tree = tree_with c.nodes;
      tokens = start_tag s.tag ∷ (c.tokens ++ end ∷ []);
      written = full_written;
      is_element = full s.tag.name [] c.tokens (has_tag c.nodes) (subst (λ (here : List Bind). IsContent here inside_at c.tokens c.nodes) (sym bound_inside) c.is_content) refl;
      balanced = Fitting.element s.tag.name [] c.tokens [] c.balanced Fitting.nothing refl;
      fit = full_fits;
      shows = (has_head c.nodes, c.are, refl);
    }

-- a text

pub text_spelled : (ns text : List ℕ) → IsLegal text → (at : ℕ) → ContentSpelled ns at (escaped_text text) (λ nodes. nodes ≡ text_nodes text)
text_spelled ns text l at = subst (λ (z : List ℕ). ContentSpelled ns at (escaped_text z) (λ nodes. nodes ≡ text_nodes z)) l.1 (record {
  nodes = text_nodes (encode_utf8_all l.0);
  tokens = map text_token l.0;
  written = text_written l.0;
  is_content = text_content (binds_to ns) l.0 at;
  balanced = text_balanced l.0;
  fit = λ before i. text_fits (binds_to ns) before l.0 l.2 i;
  are = refl;
})

feed_is_token : IsToken (character 0xA)
unfolding is_char
feed_is_token = (refl, λ e. cc, λ e. cc)

pub feed_fits : (here : List Bind) (before : List Token) → Inside here before → Fits before (character 0xA)
feed_fits here before i = record { token = feed_is_token; open_tags = i.outer ∷ i.inner; are_open = i.are_open; fits_in = λ e. cc }

pub outer_feed_fits : (before : List Token) → AreOpen [] before → Fits before (character 0xA)
outer_feed_fits before o = record { token = feed_is_token; open_tags = []; are_open = o; fits_in = refl }

abbrev pub feed : Token
feed = character 0xA

feed_written : encode_utf8_all (codes "\n") ≡ codes "\n"
feed_written = ascii_codes (codes "\n") refl

pub feed_before : (ts : List Token) → bytes_of (feed ∷ ts) ≡ codes "\n" ++ bytes_of ts
feed_before ts = encodes-append (codes "\n") (tokens_written ts) ∙ ap (λ z. z ++ bytes_of ts) feed_written

-- no text begins the lines
break_before : (ns : List ℕ) (ms : Markups) (nodes : List Node) → AreLines ns ms nodes → with_text (codes "\n") nodes ≡ line_break ∷ nodes
break_before ns none nodes h = rw h (ap (λ z. Text z ∷ []) feed_written)
break_before ns (more m rest) nodes h = rw h.2 (ap (λ z. Text z ∷ Element h.0 ∷ line_break ∷ h.1) feed_written)

abbrev AreBroken : List ℕ → Markups → List Node → Type 0
AreBroken ns ms nodes = (lines : List Node) × (nodes ≡ line_break ∷ lines) × AreLines ns ms lines

-- a line break, and then the lines
broken : (ns : List ℕ) (ms : Markups) (at : ℕ) → ContentSpelled ns (at + size_of (token_written feed)) (all_printed ms) (AreLines ns ms)
    → ContentSpelled ns at (codes "\n" ++ all_printed ms) (AreBroken ns ms)
broken ns ms at k = record {
  nodes = line_break ∷ k.nodes;
  tokens = feed ∷ k.tokens;
  written = feed_before k.tokens ∙ ap (λ z. codes "\n" ++ z) k.written;
  is_content = Trees.piece k.nodes refl k.is_content (sym (break_before ns ms k.nodes k.are));
  balanced = Fitting.piece refl k.balanced;
  fit = λ before i. (feed_fits (binds_to ns) before i, k.fit (before ++ feed ∷ []) (inside_after i (Fitting.piece refl Fitting.nothing)));
  are = (k.nodes, refl, k.are);
}

nothing_spelled : (ns : List ℕ) (at : ℕ) → ContentSpelled ns at [] (AreLines ns none)
nothing_spelled ns at = record { nodes = []; tokens = []; written = refl; is_content = Trees.nothing; balanced = Fitting.nothing; fit = λ before i. tt; are = refl }

-- an element, and what begins with the line break after it
more_spelled : (ns : List ℕ) (m : Markup) (rest : Markups) (at : ℕ) (e : ElementSpelled false ns at (printed m) (Shows ns [] m))
    → ContentSpelled ns (at + size_of (tokens_written e.tokens)) (codes "\n" ++ all_printed rest) (AreBroken ns rest) → ContentSpelled ns at (printed m ++ all_printed rest) (AreLines ns (more m rest))
more_spelled ns m rest at e k = record {
  nodes = Element e.tree ∷ k.nodes;
  tokens = e.tokens ++ k.tokens;
  written = bytes-append e.tokens k.tokens ∙ ap (λ z. bytes_of e.tokens ++ z) k.written ∙ sym (append_assoc (bytes_of e.tokens) (codes "\n") (all_printed rest)) ∙ ap (λ z. z ++ all_printed rest) e.written;
  is_content = child e.tokens k.tokens e.is_element k.is_content refl;
  balanced = balanced_append e.balanced k.balanced;
  fit = λ before i. fit_append before e.tokens k.tokens (e.fit before i) (k.fit (before ++ e.tokens) (inside_after i e.balanced));
  are = (e.tree, k.are.0, ap (λ z. Element e.tree ∷ z) k.are.1, e.shows, k.are.2);
}

-- the line break as a part of the start tag's line
regrouped : (a name pairs c d inside e f : List ℕ) → a ++ name ++ pairs ++ c ++ (d ++ inside) ++ e ++ name ++ f ≡ a ++ name ++ pairs ++ (c ++ d) ++ inside ++ e ++ name ++ f
regrouped a name pairs c d inside e f = simp append_assoc

-- an element, of the lines in it
pub with_lines : (is_root : Bool) (ns : List ℕ) (binds : List Bind) (name : List ℕ) (pairs attributes : List Pair) (inside : Markups) → TagSpelled is_root ns binds name pairs attributes
    → around is_root (binds_to ns) ++ binds ≡ binds_to ns → ((at : ℕ) → ContentSpelled ns at (all_printed inside) (AreLines ns inside))
    → (at : ℕ) → ElementSpelled is_root ns at (printed (element name pairs inside)) (Shows ns binds (element name attributes inside))
with_lines is_root ns binds name pairs attributes none s same k at = empty_spelled is_root ns binds name pairs attributes s at
with_lines is_root ns binds name pairs attributes (more m rest) s same k at =
    let lines = codes "\n" ++ all_printed (more m rest) in
    let content : ContentSpelled ns (inside_at is_root ns binds name pairs attributes s at) lines (AreBroken ns (more m rest)) = broken ns (more m rest) _ (k _) in
    let joined : full_bytes is_root ns binds name pairs attributes s at lines (AreBroken ns (more m rest)) same content ≡ printed (element name pairs (more m rest)) =
    regrouped (codes "<") name (attributes_printed pairs) (codes ">") (codes "\n") (all_printed (more m rest)) (codes "</") (codes ">\n") in
    subst (λ (bytes : List ℕ). ElementSpelled is_root ns at bytes (Shows ns binds (element name attributes (more m rest)))) joined
    (full_spelled is_root ns binds name pairs attributes s at lines (AreBroken ns (more m rest)) same content)

-- the pairs of a tag that declares prefixes are its declarations and its attributes
declared_printed : (name : List ℕ) (prefixes attributes : List Pair)
    → codes "<" ++ name ++ attributes_printed (map declaration prefixes ++ attributes) ++ codes "/>\n" ≡ printed (declaring name prefixes attributes)
declared_printed name prefixes attributes =
    let before = codes "<" ++ name in
    ap (λ z. before ++ z ++ codes "/>\n") (attributes_append (map declaration prefixes) attributes)
    ∙ ap (λ z. z ++ codes "/>\n") (sym (append_assoc before (attributes_printed (map declaration prefixes)) (attributes_printed attributes)))

mutual
  pub element_spelled : (ns : List ℕ) (m : Markup) → IsPlain m → (at : ℕ) → ElementSpelled false ns at (printed m) (Shows ns [] m)
  element_spelled ns (element name attributes inside) p at =
      with_lines false ns [] name attributes attributes inside (plain_tag_spelled ns name attributes p.0) refl (lines_spelled ns inside p.1) at
  element_spelled ns (line name attributes []) p at = empty_spelled false ns [] name attributes attributes (plain_tag_spelled ns name attributes p.0) at
  element_spelled ns (line name attributes (c ∷ cs)) p at =
      full_spelled false ns [] name attributes attributes (plain_tag_spelled ns name attributes p.0) at (escaped_text (c ∷ cs)) (λ nodes. nodes ≡ text_nodes (c ∷ cs)) refl
      (text_spelled ns (c ∷ cs) p.1 _)
  element_spelled ns (declaring name prefixes attributes) p at =
      subst (λ (bytes : List ℕ). ElementSpelled false ns at bytes (Shows ns [] (declaring name prefixes attributes))) (declared_printed name prefixes attributes)
      (empty_spelled false ns (map bind_of prefixes) name (map declaration prefixes ++ attributes) attributes (declaring_tag_spelled ns name prefixes attributes p.0 p.1) at)

  pub lines_spelled : (ns : List ℕ) (ms : Markups) → ArePlain ms → (at : ℕ) → ContentSpelled ns at (all_printed ms) (AreLines ns ms)
  lines_spelled ns none p at = nothing_spelled ns at
  lines_spelled ns (more m rest) p at =
      let e = element_spelled ns m p.0 at in
      more_spelled ns m rest at e (broken ns rest _ (lines_spelled ns rest p.1 _))
