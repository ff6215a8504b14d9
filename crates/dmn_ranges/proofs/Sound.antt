-- What is answered of an expression holds of its outcome.
use Rattle.std.proofs.Common.{◌≡◌, refl, suc, true, false, Some, unwrap_or}
use Rattle.feel_value.specs.Datum.{null}
use Rattle.feel_value.specs.Logic.{is_yes, truth_of, not_of, truth_datum}
use Rattle.feel_value.specs.Outcome.{held}
use Rattle.feel_value.specs.declared.feel.Outcome.TheVariants.{Is}
use Rattle.feel_text.specs.Expr.{Expr, Exprs, none, more, Null, Boolean, Number, Text, Name, Group, Members, Call, Modulo, Not, Negate, Path, Binary, Between, If}
use Rattle.feel_text.specs.Meaning.{Bindings, bound, den, dens, with_values, modulo_of, call_of, path_of, operation, between_of, choice}
use Rattle.feel_text.specs.declared.expr.Function.{Function}
use Rattle.dmn_ranges.specs.Ranges.{Scope, Fits, covers, extent_named}
use Rattle.dmn_ranges.specs.Steps.{outcomes, called, remainders, inverted, negated, paths, operated, between, branches, truths, with_one, with_two, no_parts, with_part, member_at, members_behind, members_parts, first_member, list_call, member_count, with_member}
use Rattle.dmn_ranges.specs.declared.folded.Folded.{Folded}
use Rattle.dmn_ranges.specs.declared.parts.Parts.{Parts}
use Rattle.dmn_ranges.proofs.FewTexts.{has_itself}
use Rattle.dmn_ranges.proofs.Forms.{with_one_covers, with_two_covers, branches_covers, negated_covers, remainders_cover, natural_covers, operated_covers, between_covers, inverted_covers, called_covers, paths_cover}
use Rattle.dmn_ranges.proofs.Formed.{MembersTold, member_more, limit_along, list_told}
use Rattle.dmn_ranges.proofs.Sizes.{none_behind}
use Rattle.dmn_ranges.proofs.SoundLists.{CoversIf, FoldTold, Made, Told, first_made, first_told, fold_before, folded_along, list_before, list_covers, members_counted, next_made, next_told, none_covers, told_or}
use Rattle.dmn_ranges.proofs.SoundMembers.{known_covers, path_known, range_within}
use Rattle.dmn_ranges.proofs.TruthSets.{truth_told}

mutual
  pub sound : (e : Expr) (xs : Scope) (m : Bindings) → Fits xs m → covers (outcomes e xs) (den e m) ≡ true
  sound Null xs m h = refl
  sound (Boolean true) xs m h = refl
  sound (Boolean false) xs m h = refl
  sound (Number n) xs m h = natural_covers n
  sound (Text bytes) xs m h = has_itself bytes
  sound (Name name) xs m h = range_within (extent_named xs name) (unwrap_or (bound name m) null) (h name)
  sound (Group e) xs m h = sound e xs m h
  sound (Members es) xs m h = list_told (members_parts no_parts es xs) (dens es m) (members_sound es xs m h no_parts)
  sound (Call f e) xs m h =
      told_or (list_call f e xs) (with_one (outcomes e xs) (called f)) (den (Call f e) m) (call_sound f e xs m h)
      (with_one_covers (outcomes e xs) (den e m) (called f) (λ d. held (call_of f d)) (sound e xs m h) (called_covers f (outcomes e xs).range))
  sound (Modulo a b) xs m h =
      with_two_covers (outcomes a xs) (outcomes b xs) (den a m) (den b m) remainders (λ d e. held (modulo_of d e)) (sound a xs m h) (sound b xs m h) (remainders_cover (outcomes a xs).range (outcomes b xs).range)
  sound (Not e) xs m h = with_one_covers (outcomes e xs) (den e m) inverted (λ d. Is (truth_datum (not_of (truth_of d)))) (sound e xs m h) (inverted_covers (outcomes e xs).range)
  sound (Negate e) xs m h = with_one_covers (outcomes e xs) (den e m) negated _ (sound e xs m h) (negated_covers (outcomes e xs).range)
  sound (Path e name) xs m h =
      known_covers (member_at (Path e name) (members_behind e xs)) (with_one (outcomes e xs) paths) (den (Path e name) m) (path_known (Path e name) xs m h)
      (with_one_covers (outcomes e xs) (den e m) paths (λ d. held (path_of name d)) (sound e xs m h) (paths_cover name (outcomes e xs).range))
  sound (Binary op a b) xs m h =
      with_two_covers (outcomes a xs) (outcomes b xs) (den a m) (den b m) (operated op) (λ d e. held (operation op d e)) (sound a xs m h) (sound b xs m h) (operated_covers op (outcomes a xs).range (outcomes b xs).range)
  sound (Between e low high) xs m h =
      with_one_covers (outcomes e xs) (den e m) (λ r. with_two (outcomes low xs) (outcomes high xs) (between r)) (λ d. with_values (den low m) (den high m) (λ l u. Is (between_of d l u))) (sound e xs m h)
      (λ d k. with_two_covers (outcomes low xs) (outcomes high xs) (den low m) (den high m) (between (outcomes e xs).range) (λ l u. Is (between_of d l u)) (sound low xs m h) (sound high xs m h)
      (λ l u p q. between_covers (outcomes e xs).range (outcomes low xs).range (outcomes high xs).range d l u k p q))
  sound (If test a b) xs m h =
      with_one_covers (outcomes test xs) (den test m) (λ r. branches (truths r) (outcomes a xs) (outcomes b xs)) (λ d. choice (is_yes (truth_of d)) (den a m) (den b m)) (sound test xs m h)
      (λ d k. branches_covers (truths (outcomes test xs).range) (truth_of d) (outcomes a xs) (outcomes b xs) (den a m) (den b m) (truth_told (outcomes test xs).range d k) (sound a xs m h) (sound b xs m h))

  members_sound : (es : Exprs) (xs : Scope) (m : Bindings) → Fits xs m → (p : Parts) → MembersTold p.size (members_parts p es xs) (dens es m)
  members_sound none xs m h p = none_behind p.size
  members_sound (more e es) xs m h p =
      let q : Parts = with_part p (outcomes e xs) in
      member_more p (outcomes e xs) (den e m) (members_parts q es xs) (dens es m) (sound e xs m h) (limit_along es xs q) (members_sound es xs m h q)

  call_sound : (f : Function) (e : Expr) (xs : Scope) (m : Bindings) → Fits xs m → CoversIf (list_call f e xs) (den (Call f e) m)
  call_sound f (Group e) xs m h = call_sound f e xs m h
  call_sound f (Members none) xs m h = none_covers f
  call_sound f (Members (more e es)) xs m h =
      let o = outcomes e xs in
      list_covers f o es xs (suc (member_count es)) (dens (more e es) m)
      (list_told (members_parts no_parts (more e es) xs) (dens (more e es) m) (members_sound (more e es) xs m h no_parts))
      (list_before f (folded_along f (first_member o) es xs) o (den e m) (dens es m) (sound e xs m h) (λ d c. folded_sound es f xs m h (first_member o) (first_made d) (first_told o d c)))
      (members_counted (more e es) m)
  call_sound f e xs m h = tt

  folded_sound : (es : Exprs) (f : Function) (xs : Scope) (m : Bindings) → Fits xs m → (g : Folded) (a : Made) → Told g a → FoldTold f (folded_along f g es xs) a (dens es m)
  folded_sound none f xs m h g a k = k
  folded_sound (more e es) f xs m h g a k =
      let o = outcomes e xs in
      let next : Folded = with_member f (Some g) o in
      fold_before f (folded_along f next es xs) o a (den e m) (dens es m) (sound e xs m h) (λ d c. folded_sound es f xs m h next (next_made f a d) (next_told f g o a d k c))
