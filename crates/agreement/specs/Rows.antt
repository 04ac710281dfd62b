-- The classes that the machines ask are the grammar's rules for a byte, and so are rows of them.
-- Assumes nothing.
use Rattle.std.specs.Prelude.{ℕ, List, ◌++◌}
use Rattle.octets.specs.Grammar.{VCHAR, IsFieldVchar, IsTchar, IsBlank, IsText}
use Rattle.octets.specs.Class.{is_blank, is_token, is_target, is_value, is_visible}
use Rattle.octets.proofs.Ties.{visible_is_VCHAR, blank_is_blank, token_is_tchar, target_is_field_vchar, value_is_text}
use Rattle.grammar.specs.Rows.{Many, none, more, Some, some}
use Rattle.leaves.specs.Rows.{In}

module _ {c d : ℕ → Type 0} (f : (b : ℕ) → c b → d b) where
  pub many_as : {w : List ℕ} → Many c w → Many d w
  many_as none = none
  many_as (more {b = b} x k) = more (f b x) (many_as k)

  pub some_as : {w : List ℕ} → Some c w → Some d w
  some_as (some {b = b} x k) = some (f b x) (many_as k)

pub many_append : {c : ℕ → Type 0} {v w : List ℕ} → Many c v → Many c w → Many c (v ++ w)
many_append none k = k
many_append (more x h) k = more x (many_append h k)

pub tokens : {w : List ℕ} → Some (In is_token) w → Some IsTchar w
tokens = some_as (λ b. (token_is_tchar b).0)

pub in_token : {w : List ℕ} → Some IsTchar w → Some (In is_token) w
in_token = some_as (λ b. (token_is_tchar b).1)

pub visibles : {w : List ℕ} → Some (In is_visible) w → Some VCHAR w
visibles = some_as (λ b. (visible_is_VCHAR b).0)

pub in_visible : {w : List ℕ} → Some VCHAR w → Some (In is_visible) w
in_visible = some_as (λ b. (visible_is_VCHAR b).1)

pub targets : {w : List ℕ} → Some (In is_target) w → Some IsFieldVchar w
targets = some_as (λ b. (target_is_field_vchar b).0)

pub in_target : {w : List ℕ} → Some IsFieldVchar w → Some (In is_target) w
in_target = some_as (λ b. (target_is_field_vchar b).1)

pub blanks : {w : List ℕ} → Many (In is_blank) w → Many IsBlank w
blanks = many_as (λ b. (blank_is_blank b).0)

pub in_blank : {w : List ℕ} → Many IsBlank w → Many (In is_blank) w
in_blank = many_as (λ b. (blank_is_blank b).1)

pub texts : {w : List ℕ} → Many (In is_value) w → Many IsText w
texts = many_as (λ b. (value_is_text b).0)

pub in_value : {w : List ℕ} → Many IsText w → Many (In is_value) w
in_value = many_as (λ b. (value_is_text b).1)
