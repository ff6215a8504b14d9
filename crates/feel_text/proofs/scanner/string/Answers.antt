use Rattle.std.proofs.Common.{◌≡◌, Some, ◌++◌, ◌∷◌, [], List, ℕ, false, length, take, drop, string_bytes, sym, ap, subst, ◌∙◌, arith}
use Rattle.std.specs.Str.{IsUtf8}
use Rattle.std.proofs.lemmas.Bool.Decides.{nat_tests}
use Rattle.feel_text.specs.Lexical.{escaped}
use Rattle.feel_text.specs.Scanning.{text_at}
use Rattle.feel_text.proofs.Runs.{after_first}
use Rattle.feel_text.proofs.Strings.{run_step, ends_empty, ends_quote, mark_is, ends_cut, ends_unknown, goes_on, escaped_ascii, after_second}
use Rattle.feel_text.proofs.scanner.string.Goals as goal

pub returns-in_default : goal.returns-in_default
returns-in_default c =
    let back = c.split_at.ensures.back ∙ ap (λ (n : ℕ). drop n c.loop-rest.rest.now) c.plain_length.ensures.length in
    let on = run_step (string_bytes c.loop-rest.content) c.loop-rest.rest.now c.split_at.result.0.now c.split_at.result.1.now (string_bytes c.push_str.new.self) (text_at false c.args.text.now) (c.split_at.ensures.front ∙ ap (λ (n : ℕ). take n c.loop-rest.rest.now) c.plain_length.ensures.length) back c.in_ok-push_str.ensures.bytes c.loop-rest.invariant.so_far in
    let none : length c.split_at.result.1.now ≡ 0 = ap (λ (w : List ℕ). length w) (sym c.as_bytes.ensures.value) ∙ c.in_default.ensures.cases in
    ends_empty (string_bytes c.push_str.new.self) c.split_at.result.1.now (text_at false c.args.text.now) none on

pub range_from-requires : goal.range_from-requires
range_from-requires c =
    let first : c.split_at.result.1.now ≡ c.in-Some.mark.now ∷ c.in-Some.behind.now = sym c.as_bytes.ensures.value ∙ c.in-Some.ensures.cases.0 in
    let utf8 : IsUtf8 c.split_at.result.1.now = subst (λ (w : List ℕ). IsUtf8 w) c.as_bytes.ensures.value c.as_bytes.ensures.utf8 in
    let quote : c.in-Some.mark.now ≡ 34 = grind (arith, nat_tests) in
    λ _. after_first c.split_at.result.1.now c.in-Some.behind.now c.in-Some.mark.now utf8 first (omega arith)

pub returns-then-mark-eq34 : goal.returns-then-mark-eq34
returns-then-mark-eq34 c =
    let back = c.split_at.ensures.back ∙ ap (λ (n : ℕ). drop n c.loop-rest.rest.now) c.plain_length.ensures.length in
    let on = run_step (string_bytes c.loop-rest.content) c.loop-rest.rest.now c.split_at.result.0.now c.split_at.result.1.now (string_bytes c.push_str.new.self) (text_at false c.args.text.now) (c.split_at.ensures.front ∙ ap (λ (n : ℕ). take n c.loop-rest.rest.now) c.plain_length.ensures.length) back c.in_ok-push_str.ensures.bytes c.loop-rest.invariant.so_far in
    let first : c.split_at.result.1.now ≡ c.in-Some.mark.now ∷ c.in-Some.behind.now = sym c.as_bytes.ensures.value ∙ c.in-Some.ensures.cases.0 in
    let quote : c.in-Some.mark.now ≡ 34 = grind (arith, nat_tests) in
    ends_quote (string_bytes c.push_str.new.self) c.split_at.result.1.now c.in-Some.behind.now c.in-Some.mark.now (text_at false c.args.text.now) first quote on ∙ ap (λ (w : List ℕ). Some (string_bytes c.push_str.new.self, w)) (sym c.range_from.ensures.value)

pub returns-in_default-split_first : goal.returns-in_default-split_first
returns-in_default-split_first c =
    let back = c.split_at.ensures.back ∙ ap (λ (n : ℕ). drop n c.loop-rest.rest.now) c.plain_length.ensures.length in
    let first : c.split_at.result.1.now ≡ c.in-Some.mark.now ∷ c.in-Some.behind.now = sym c.as_bytes.ensures.value ∙ c.in-Some.ensures.cases.0 in
    let mark : c.in-Some.mark.now ≡ 92 = mark_is c.loop-rest.rest.now c.split_at.result.1.now c.in-Some.behind.now c.in-Some.mark.now back first (λ e. grind (arith, nat_tests)) in
    let on = run_step (string_bytes c.loop-rest.content) c.loop-rest.rest.now c.split_at.result.0.now c.split_at.result.1.now (string_bytes c.push_str.new.self) (text_at false c.args.text.now) (c.split_at.ensures.front ∙ ap (λ (n : ℕ). take n c.loop-rest.rest.now) c.plain_length.ensures.length) back c.in_ok-push_str.ensures.bytes c.loop-rest.invariant.so_far in
    ends_cut (string_bytes c.push_str.new.self) c.split_at.result.1.now c.in-Some.behind.now c.in-Some.mark.now (text_at false c.args.text.now) first mark c.in_default-split_first.ensures.cases on

pub returns-in_default-escaped : goal.returns-in_default-escaped
returns-in_default-escaped c =
    let back = c.split_at.ensures.back ∙ ap (λ (n : ℕ). drop n c.loop-rest.rest.now) c.plain_length.ensures.length in
    let first : c.split_at.result.1.now ≡ c.in-Some.mark.now ∷ c.in-Some.behind.now = sym c.as_bytes.ensures.value ∙ c.in-Some.ensures.cases.0 in
    let mark : c.in-Some.mark.now ≡ 92 = mark_is c.loop-rest.rest.now c.split_at.result.1.now c.in-Some.behind.now c.in-Some.mark.now back first (λ e. grind (arith, nat_tests)) in
    let on = run_step (string_bytes c.loop-rest.content) c.loop-rest.rest.now c.split_at.result.0.now c.split_at.result.1.now (string_bytes c.push_str.new.self) (text_at false c.args.text.now) (c.split_at.ensures.front ∙ ap (λ (n : ℕ). take n c.loop-rest.rest.now) c.plain_length.ensures.length) back c.in_ok-push_str.ensures.bytes c.loop-rest.invariant.so_far in
    ends_unknown (string_bytes c.push_str.new.self) c.split_at.result.1.now c.in-Some.behind.now _ c.in-Some.mark.now c.in-Some-split_first.byte.now (text_at false c.args.text.now) first mark c.in-Some-split_first.ensures.cases.0 (sym c.in_default-escaped.ensures) on

pub range_from-rest-requires : goal.range_from-rest-requires
range_from-rest-requires c =
    let first : c.split_at.result.1.now ≡ c.in-Some.mark.now ∷ c.in-Some.behind.now = sym c.as_bytes.ensures.value ∙ c.in-Some.ensures.cases.0 in
    let utf8 : IsUtf8 c.split_at.result.1.now = subst (λ (w : List ℕ). IsUtf8 w) c.as_bytes.ensures.value c.as_bytes.ensures.utf8 in
    let known : escaped c.in-Some-split_first.byte.now ≡ Some c.in-Some-escaped.character = sym c.in-Some-escaped.ensures in
    let ascii = escaped_ascii c.in-Some-split_first.byte.now c.in-Some-escaped.character known in
    λ _. after_second c.split_at.result.1.now c.in-Some.behind.now _ c.in-Some.mark.now c.in-Some-split_first.byte.now utf8 first c.in-Some-split_first.ensures.cases.0 ascii.0

pub loop-rest-preserved : goal.loop-rest-preserved
loop-rest-preserved c =
    let back = c.split_at.ensures.back ∙ ap (λ (n : ℕ). drop n c.loop-rest.rest.now) c.plain_length.ensures.length in
    let first : c.split_at.result.1.now ≡ c.in-Some.mark.now ∷ c.in-Some.behind.now = sym c.as_bytes.ensures.value ∙ c.in-Some.ensures.cases.0 in
    let mark : c.in-Some.mark.now ≡ 92 = mark_is c.loop-rest.rest.now c.split_at.result.1.now c.in-Some.behind.now c.in-Some.mark.now back first (λ e. grind (arith, nat_tests)) in
    let on = run_step (string_bytes c.loop-rest.content) c.loop-rest.rest.now c.split_at.result.0.now c.split_at.result.1.now (string_bytes c.push_str.new.self) (text_at false c.args.text.now) (c.split_at.ensures.front ∙ ap (λ (n : ℕ). take n c.loop-rest.rest.now) c.plain_length.ensures.length) back c.in_ok-push_str.ensures.bytes c.loop-rest.invariant.so_far in
    let known : escaped c.in-Some-split_first.byte.now ≡ Some c.in-Some-escaped.character = sym c.in-Some-escaped.ensures in
    let ascii = escaped_ascii c.in-Some-split_first.byte.now c.in-Some-escaped.character known in
    let pushed : string_bytes c.push.new.self ≡ string_bytes c.push_str.new.self ++ c.in-Some-escaped.character ∷ [] = c.in_ok-push.ensures.bytes ∙ ap (λ (w : List ℕ). string_bytes c.push_str.new.self ++ w) (c.in_ok-push.ensures.ascii ascii.1) in
    record {
      utf8 = c.range_from-rest.utf8;
      so_far = goes_on (string_bytes c.push_str.new.self) (string_bytes c.push.new.self) c.split_at.result.1.now c.in-Some.behind.now _ c.range_from-rest.result.now c.in-Some.mark.now c.in-Some-split_first.byte.now c.in-Some-escaped.character (text_at false c.args.text.now) first mark c.in-Some-split_first.ensures.cases.0 known pushed c.range_from-rest.ensures.value on;
    }

pub returns : goal.returns
returns c =
    let none : length c.loop-rest.rest.now ≡ 0 = grind (arith, nat_tests) in
    ends_empty (string_bytes c.loop-rest.content) c.loop-rest.rest.now (text_at false c.args.text.now) none c.loop-rest.invariant.so_far
