-- The text of a printed tree spells it.
use Rattle.std.proofs.Common.{◌≡◌, ℕ, ◌+◌, true, false, List, [], ◌∷◌, ◌++◌, sym, refl, ap, ap₂, ◌∙◌, append-nil, codes}
use Rattle.std.specs.Prelude.{Some, None}
use Rattle.std.proofs.lemmas.Str.{encodes-append}
use Rattle.std.specs.Str.{encode_utf8_all}
use Rattle.odd_tree.specs.declared.tree.Tree.{Tree}
use Rattle.odd_tokens.specs.Tokens.{Token, tokens_written, size_of}
use Rattle.odd_tree.specs.Fitting.{is_tag, AreOpen, none, nothing, piece}
use Rattle.odd_tokens.specs.Openings.{Setting, IsDeclaration, Opening, opening_written}
use Rattle.odd_tree.specs.Spelled.{IsDocument, Spells}
use Rattle.odd_tree.specs.Markup.{Pair, Markups, element, printed, file_printed}
use Rattle.odd_tree.proofs.Fits.{bytes_of, bytes-append, FitAfter, open_after, fit_append, all_fit}
use Rattle.odd_printing.proofs.PrintedElements.{outer_feed_fits, ElementSpelled, feed, feed_before, with_lines, lines_spelled}
use Rattle.odd_tokens.proofs.Ascii.{ascii_codes}
use Rattle.odd_tree.proofs.PrintedTrees.{IsPlainTag, ArePlain, IsNamespace, Shows, binds_to}
use Rattle.odd_printing.proofs.PrintedTags.{root_tag_spelled}

-- the opening is the declaration, and the line break after it is a token

abbrev setting : List ℕ → Setting
setting value = record { space = 0x20 ∷ []; before = []; after = []; quote = 0x22; value = value }

abbrev printed_opening : Opening
printed_opening = record { mark = false; declaration = Some (record { version = setting (codes "1.0"); encoding = Some (setting (codes "UTF-8")); standalone = None; space = [] }) }

declaration_allowed : IsDeclaration (record { version = setting (codes "1.0"); encoding = Some (setting (codes "UTF-8")); standalone = None; space = [] })
declaration_allowed = record {
  versioned = record { spaced = (λ e. cc, refl); around = (refl, refl); quoted = refl; accepted = refl };
  encoded = record { spaced = (λ e. cc, refl); around = (refl, refl); quoted = refl; accepted = refl };
  alone = tt;
  ended = refl;
}

abbrev declaration_line : List ℕ
declaration_line = codes "<?xml version=\"1.0\" encoding=\"UTF-8\"?>\n"

-- no element is in a line break
feed_is_no_tag : (before after : List Token) (t : Token) → feed ∷ [] ≡ before ++ t ∷ after → is_tag t ≡ false
feed_is_no_tag [] after t e = let same : feed ≡ t = cc in rw (← same) refl
feed_is_no_tag (b ∷ []) after t e = cc
feed_is_no_tag (b ∷ c ∷ bs) after t e = cc

abbrev root_at : ℕ
root_at = size_of (opening_written printed_opening) + size_of (tokens_written (feed ∷ []))

module _ (ns bytes : List ℕ) (Is : Tree → Type 0) (e : ElementSpelled true ns root_at bytes Is) where
  abbrev file_tokens : List Token
  file_tokens = feed ∷ (e.tokens ++ feed ∷ [])

  file_document : IsDocument (size_of (opening_written printed_opening)) file_tokens e.tree
  file_document = record {
    before = feed ∷ [];
    root = e.tokens;
    after = feed ∷ [];
    parts = refl;
    none_before = feed_is_no_tag;
    none_after = feed_is_no_tag;
    element = e.is_element;
  }

  file_fits : FitAfter [] file_tokens
  file_fits =
      let open_before : AreOpen [] (feed ∷ []) = none (piece refl nothing) in (
        outer_feed_fits [] (none nothing),
        fit_append (feed ∷ []) e.tokens (feed ∷ []) (e.fit (feed ∷ []) (record { none_open = open_before; none_was = refl }))
            (outer_feed_fits (feed ∷ e.tokens) (open_after open_before e.balanced), tt),
      )

  file_written : encode_utf8_all (opening_written printed_opening ++ tokens_written file_tokens) ≡ declaration_line ++ bytes
  file_written =
      encodes-append declaration_line (tokens_written (e.tokens ++ feed ∷ []))
      ∙ ap₂ (λ (x y : List ℕ). x ++ y) (ascii_codes declaration_line refl) (bytes-append e.tokens (feed ∷ []) ∙ ap (λ z. bytes_of e.tokens ++ z) (feed_before []) ∙ e.written)

  file_spelled : Spells (declaration_line ++ bytes) e.tree
  file_spelled = record {
    whole = record {
      opening = printed_opening;
      is_opening = declaration_allowed;
      tokens = file_tokens;
      all_fit = all_fit file_tokens file_fits;
      written = sym (append-nil _ ∙ file_written);
    };
    document = file_document;
  }

-- the text of a printed tree, whose root declares the namespace of all its elements, spells it
pub printed_spells : (ns name : List ℕ) (attributes : List Pair) (inside : Markups) → IsNamespace ns → IsPlainTag name attributes → ArePlain inside
    → (t : Tree) × Spells (file_printed (element name ((codes "xmlns", ns) ∷ attributes) inside)) t × Shows ns (binds_to ns) (element name attributes inside) t
printed_spells ns name attributes inside n p i =
    let pairs : List Pair = (codes "xmlns", ns) ∷ attributes in
    let e = with_lines true ns (binds_to ns) name pairs attributes inside (root_tag_spelled ns name attributes n p) refl (lines_spelled ns inside i) root_at in
    (e.tree, file_spelled ns (printed (element name pairs inside)) (Shows ns (binds_to ns) (element name attributes inside)) e, e.shows)
