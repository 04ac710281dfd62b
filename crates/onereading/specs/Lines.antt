-- What is known of a start line stays known as bytes arrive.
-- Assumes nothing.
use Rattle.std.specs.Prelude.{ℕ, refl, List, ◌++◌, None, Option, Some}
use Rattle.std.proofs.Common.{subst}
use Rattle.reader.specs.Seq.{first}
use Rattle.reader.specs.Chain.{nothing, reads}
use Rattle.reader.specs.Known.{known_of}
use Rattle.reader.proofs.Later.{later, last_keeps, last_grows, chain_keeps, chain_grows}
use Rattle.octets.specs.Class.{is_token}
use Rattle.rules.specs.Rules.{Rules}
use Rattle.parts.specs.declared.Error.TheVariants.{NewLine, Token, Version}
use Rattle.parts.specs.declared.Piece.{Piece}
use Rattle.parts.specs.LineEnd.{begin, line_end_step, line_end}
use Rattle.parts.specs.EmptyLines.{start, empty_lines_step}
use Rattle.words.specs.Word.{word_step}
use Rattle.words.specs.Word as words
use Rattle.versions.specs.Version.{name, version_step}
use Rattle.spaces.specs.Space.{space_step, space, behind_code_step, behind_code}
use Rattle.requestline.specs.declared.RequestLine.{RequestLine}
use Rattle.requestline.specs.RequestLine as requests
use Rattle.statusline.specs.declared.StatusLine.{StatusLine}
use Rattle.statusline.specs.StatusLine as statuses
use Rattle.onereading.specs.Statements.{SamePiece, SameNumber, SameRequest, SameStatus}

piece_refl : (a : Option Piece) → SamePiece a a
piece_refl (Some a) = refl
piece_refl None = tt

number_refl : (a : Option ℕ) → SameNumber a a
number_refl (Some a) = refl
number_refl None = tt

piece_trans : (a b c : Option Piece) → SamePiece a b → SamePiece b c → SamePiece a c
piece_trans (Some a) b c h i = subst (λ y. SamePiece y c) h i
piece_trans None b c h i = tt

number_trans : (a b c : Option ℕ) → SameNumber a b → SameNumber b c → SameNumber a c
number_trans (Some a) b c h i = subst (λ y. SameNumber y c) h i
number_trans None b c h i = tt

request_refl : (k : RequestLine) → SameRequest k k
request_refl k = record { method = piece_refl k.method; target = piece_refl k.target; version = number_refl k.version }

request_trans : (k l m : RequestLine) → SameRequest k l → SameRequest l m → SameRequest k m
request_trans k l m h i = record {
  method = piece_trans k.method l.method m.method h.method i.method;
  target = piece_trans k.target l.target m.target h.target i.target;
  version = number_trans k.version l.version m.version h.version i.version;
}

status_refl : (k : StatusLine) → SameStatus k k
status_refl k = record { version = number_refl k.version; code = number_refl k.code; reason = piece_refl k.reason }

status_trans : (k l m : StatusLine) → SameStatus k l → SameStatus l m → SameStatus k m
status_trans k l m h i = record {
  version = number_trans k.version l.version m.version h.version i.version;
  code = number_trans k.code l.code m.code h.code i.code;
  reason = piece_trans k.reason l.reason m.reason h.reason i.reason;
}

module _ (r : Rules) where
  abbrev K₁ : Piece → RequestLine
  K₁ m = requests.with_method requests.unread m

  abbrev K₂ : Piece → Piece → RequestLine
  K₂ m t = requests.with_target (K₁ m) t

  -- no part forgets what is known before it
  module _ (z : List ℕ) where
    keeps_end : (k : RequestLine) (q : ℕ) → SameRequest k (known_of (requests.from_end r z k q))
    keeps_end k q = last_keeps SameRequest k (λ _. k) (request_refl k) (λ _. request_refl k) (line_end r NewLine z q)

    keeps_version : (m t : Piece) (q : ℕ) → SameRequest (K₂ m t) (known_of (requests.from_version r z (K₂ m t) q))
    keeps_version m t q = chain_keeps SameRequest (K₂ m t) (requests.with_version (K₂ m t)) request_refl request_trans (λ v. record { method = refl; target = refl; version = tt }) (requests.from_end r z) (λ v i. keeps_end (requests.with_version (K₂ m t) v) i) (reads (requests.gap_version r) (first tt) z q)

    keeps_target : (m : Piece) (q : ℕ) → SameRequest (K₁ m) (known_of (requests.from_target r z (K₁ m) q))
    keeps_target m q = chain_keeps SameRequest (K₁ m) (requests.with_target (K₁ m)) request_refl request_trans (λ t. record { method = refl; target = tt; version = tt }) (requests.from_version r z) (λ t i. keeps_version m t i) (reads (requests.gap_target r) (first tt) z q)

  module _ (xs ys : List ℕ) where
    grows_end : (k : RequestLine) (q : ℕ) → SameRequest (known_of (requests.from_end r xs k q)) (known_of (requests.from_end r (xs ++ ys) k q))
    grows_end k q = last_grows SameRequest k (λ _. k) request_refl (λ _. request_refl k) (later nothing (line_end_step r NewLine) begin xs ys q)

    grows_version : (m t : Piece) (q : ℕ) → SameRequest (known_of (requests.from_version r xs (K₂ m t) q)) (known_of (requests.from_version r (xs ++ ys) (K₂ m t) q))
    grows_version m t q = chain_grows SameRequest (K₂ m t) (requests.with_version (K₂ m t)) request_refl (requests.from_end r xs) (requests.from_end r (xs ++ ys)) (λ v i. grows_end (requests.with_version (K₂ m t) v) i) (later nothing (requests.gap_version r) (first tt) xs ys q) (keeps_version (xs ++ ys) m t q)

    grows_target : (m : Piece) (q : ℕ) → SameRequest (known_of (requests.from_target r xs (K₁ m) q)) (known_of (requests.from_target r (xs ++ ys) (K₁ m) q))
    grows_target m q = chain_grows SameRequest (K₁ m) (requests.with_target (K₁ m)) request_refl (requests.from_version r xs) (requests.from_version r (xs ++ ys)) (λ t i. grows_version m t i) (later nothing (requests.gap_target r) (first tt) xs ys q) (keeps_target (xs ++ ys) m q)

    unread_keeps : (l : RequestLine) → SameRequest requests.unread l
    unread_keeps l = record { method = tt; target = tt; version = tt }

    grows_method : (q : ℕ) → SameRequest (known_of (requests.from_method r xs requests.unread q)) (known_of (requests.from_method r (xs ++ ys) requests.unread q))
    grows_method q = chain_grows SameRequest requests.unread (requests.with_method requests.unread) request_refl (requests.from_target r xs) (requests.from_target r (xs ++ ys)) grows_target (later nothing (word_step is_token 32 Token) words.none xs ys q) (unread_keeps _)

    pub request_line_grows : SameRequest (known_of (requests.request_line r xs 0)) (known_of (requests.request_line r (xs ++ ys) 0))
    request_line_grows =
        let g = chain_grows SameRequest requests.unread (λ _. requests.unread) request_refl (requests.from_method r xs) (requests.from_method r (xs ++ ys)) (λ x i. grows_method i) (later nothing (empty_lines_step r) start xs ys 0) (unread_keeps _) in
        subst (λ y. SameRequest (known_of y) (known_of (requests.request_line r (xs ++ ys) 0))) (requests.request_line_whole r xs 0 refl)
        (subst (λ y. SameRequest (known_of (requests.from_start r xs 0)) (known_of y)) (requests.request_line_whole r (xs ++ ys) 0 refl) g)

module _ (r : Rules) where
  abbrev V₁ : ℕ → StatusLine
  V₁ v = statuses.with_version statuses.unread v

  abbrev V₂ : ℕ → ℕ → StatusLine
  V₂ v c = statuses.with_code (V₁ v) c

  module _ (z : List ℕ) where
    keeps_reason : (v c q : ℕ) → SameStatus (V₂ v c) (known_of (statuses.from_reason r z (V₂ v c) q))
    keeps_reason v c q = last_keeps SameStatus (V₂ v c) (statuses.with_reason (V₂ v c)) (status_refl (V₂ v c)) (λ w. record { version = refl; code = refl; reason = tt }) (reads (statuses.gap_reason r) (first tt) z q)

    keeps_behind : (v c q : ℕ) → SameStatus (V₂ v c) (known_of (statuses.from_behind r z (V₂ v c) q))
    keeps_behind v c q = chain_keeps SameStatus (V₂ v c) (λ _. V₂ v c) status_refl status_trans (λ _. status_refl (V₂ v c)) (statuses.from_reason r z) (λ x i. keeps_reason v c i) (behind_code r z q)

    keeps_code : (v q : ℕ) → SameStatus (V₁ v) (known_of (statuses.from_code r z (V₁ v) q))
    keeps_code v q = chain_keeps SameStatus (V₁ v) (statuses.with_code (V₁ v)) status_refl status_trans (λ c. record { version = refl; code = tt; reason = tt }) (statuses.from_behind r z) (λ c i. keeps_behind v c i) (reads (statuses.gap_code r) (first tt) z q)

    keeps_space : (v q : ℕ) → SameStatus (V₁ v) (known_of (statuses.from_space r z (V₁ v) q))
    keeps_space v q = chain_keeps SameStatus (V₁ v) (λ _. V₁ v) status_refl status_trans (λ _. status_refl (V₁ v)) (statuses.from_code r z) (λ x i. keeps_code v i) (space Version z q)

  module _ (xs ys : List ℕ) where
    grows_reason : (v c q : ℕ) → SameStatus (known_of (statuses.from_reason r xs (V₂ v c) q)) (known_of (statuses.from_reason r (xs ++ ys) (V₂ v c) q))
    grows_reason v c q = last_grows SameStatus (V₂ v c) (statuses.with_reason (V₂ v c)) status_refl (λ w. record { version = refl; code = refl; reason = tt }) (later nothing (statuses.gap_reason r) (first tt) xs ys q)

    grows_behind : (v c q : ℕ) → SameStatus (known_of (statuses.from_behind r xs (V₂ v c) q)) (known_of (statuses.from_behind r (xs ++ ys) (V₂ v c) q))
    grows_behind v c q = chain_grows SameStatus (V₂ v c) (λ _. V₂ v c) status_refl (statuses.from_reason r xs) (statuses.from_reason r (xs ++ ys)) (λ x i. grows_reason v c i) (later nothing (behind_code_step r) tt xs ys q) (keeps_behind (xs ++ ys) v c q)

    grows_code : (v q : ℕ) → SameStatus (known_of (statuses.from_code r xs (V₁ v) q)) (known_of (statuses.from_code r (xs ++ ys) (V₁ v) q))
    grows_code v q = chain_grows SameStatus (V₁ v) (statuses.with_code (V₁ v)) status_refl (statuses.from_behind r xs) (statuses.from_behind r (xs ++ ys)) (λ c i. grows_behind v c i) (later nothing (statuses.gap_code r) (first tt) xs ys q) (keeps_code (xs ++ ys) v q)

    grows_space : (v q : ℕ) → SameStatus (known_of (statuses.from_space r xs (V₁ v) q)) (known_of (statuses.from_space r (xs ++ ys) (V₁ v) q))
    grows_space v q = chain_grows SameStatus (V₁ v) (λ _. V₁ v) status_refl (statuses.from_code r xs) (statuses.from_code r (xs ++ ys)) (λ x i. grows_code v i) (later nothing (space_step Version) tt xs ys q) (keeps_space (xs ++ ys) v q)

    nothing_kept : (l : StatusLine) → SameStatus statuses.unread l
    nothing_kept l = record { version = tt; code = tt; reason = tt }

    grows_status_version : (q : ℕ) → SameStatus (known_of (statuses.from_version r xs statuses.unread q)) (known_of (statuses.from_version r (xs ++ ys) statuses.unread q))
    grows_status_version q = chain_grows SameStatus statuses.unread (statuses.with_version statuses.unread) status_refl (statuses.from_space r xs) (statuses.from_space r (xs ++ ys)) grows_space (later nothing version_step name xs ys q) (nothing_kept _)

    pub status_line_grows : SameStatus (known_of (statuses.status_line r xs 0)) (known_of (statuses.status_line r (xs ++ ys) 0))
    status_line_grows =
        let g = chain_grows SameStatus statuses.unread (λ _. statuses.unread) status_refl (statuses.from_version r xs) (statuses.from_version r (xs ++ ys)) (λ x i. grows_status_version i) (later nothing (empty_lines_step r) start xs ys 0) (nothing_kept _) in
        subst (λ y. SameStatus (known_of y) (known_of (statuses.status_line r (xs ++ ys) 0))) (statuses.status_line_whole r xs 0 refl)
        (subst (λ y. SameStatus (known_of (statuses.from_start r xs 0)) (known_of y)) (statuses.status_line_whole r (xs ++ ys) 0 refl) g)
