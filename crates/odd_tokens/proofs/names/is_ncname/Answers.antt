use Rattle.std.proofs.Common.{◌≡◌, true, false, ◌&&◌, ◌∙◌, sym, ap, subst, IsUtf8, ◌++◌, encode_utf8, length, refl, rules}
use borrow.Author.Tests.{tests}
use Rattle.std.specs.Str.{chars}
use Rattle.std.specs.List.{list_all}
use Rattle.std.proofs.lemmas.Iterator.{YieldsList-from_chars}
use Rattle.std.proofs.lemmas.Iterator.Search.{all_from_yields_List}
use Rattle.std.proofs.lemmas.Str.{IsUtf8-past_char}
use Rattle.odd_tokens.specs.Characters.{is_name_start as a_name_start, is_name_char as a_name_char}
use Rattle.odd_tokens.proofs.Ascii.{decided_by_chars, none_empty, first_tested}
use Rattle.odd_tokens.proofs.names.is_ncname.Goals as goal

pub returns-then-is_name_start : goal.returns-then-is_name_start
returns-then-is_name_start c =
    let text = c.args.text.now in
    let rest = c.next.new.self.rest.now in
    let u : IsUtf8 text = subst IsUtf8 c.as_str.ensures c.as_str.utf8 in
    let all_of : text ≡ encode_utf8 c.in-Some.first ++ rest = cc (c.as_str.ensures, c.chars-chars.ensures.rest, c.in-Some.ensures.steps.0) in
    let u_rest : IsUtf8 rest = IsUtf8-past_char text rest c.in-Some.first u all_of in
    let start : a_name_start c.in-Some.first ≡ true = sym c.is_name_start.ensures ∙ c.if-is_name_start.true in
    let tested : c.all.result ≡ list_all a_name_char (chars rest) = all_from_yields_List a_name_char _ _ c.all.result c.all.ensures.ran (YieldsList-from_chars rest u_rest refl) (λ x b q k. search (rules, tests)) in
    decided_by_chars text c.all.result u (tested ∙ sym (first_tested text rest c.in-Some.first u all_of ∙ ap (λ b. b && list_all a_name_char (chars rest)) start))

pub returns-else-is_name_start : goal.returns-else-is_name_start
returns-else-is_name_start c =
    let text = c.args.text.now in
    let rest = c.next.new.self.rest.now in
    let u : IsUtf8 text = subst IsUtf8 c.as_str.ensures c.as_str.utf8 in
    let all_of : text ≡ encode_utf8 c.in-Some.first ++ rest = cc (c.as_str.ensures, c.chars-chars.ensures.rest, c.in-Some.ensures.steps.0) in
    let start : a_name_start c.in-Some.first ≡ false = sym c.is_name_start.ensures ∙ c.if-is_name_start.false in
    decided_by_chars text c.is_name_start.result u (c.if-is_name_start.false ∙ sym (first_tested text rest c.in-Some.first u all_of ∙ ap (λ b. b && list_all a_name_char (chars rest)) start))

pub returns-in-None : goal.returns-in-None
returns-in-None c =
    let text = c.args.text.now in
    let u : IsUtf8 text = subst IsUtf8 c.as_str.ensures c.as_str.utf8 in
    let none : length text ≡ 0 = cc (c.as_str.ensures, c.chars-chars.ensures.rest, c.in-None.ensures.steps.0.0) in
    none_empty text u none
