-- One reading only: what is said of every kind of head, and nothing else. docs/PROVED.md names the theorem for each kind.
-- Assumes nothing.
use Rattle.std.specs.Prelude.{ℕ, ◌+◌, ◌*◌, ◌≤◌, ◌<◌, ◌≡◌, List, ◌++◌, false, length, take, drop, Err, None, Ok, Option, Some}
use Rattle.rules.specs.Rules.{Rules, default}
use Rattle.grammar.specs.Fields.{Field}
use Rattle.grammar.specs.Message as grammar
use Rattle.grammar.specs.Chunked.{IsChunkLine}
use Rattle.parts.specs.declared.Piece.{Piece}
use Rattle.parts.specs.declared.Error.TheVariants.{TooManyHeaders}
use Rattle.parts.specs.declared.Fault.{Fault}
use Rattle.parts.specs.Answers.{Passed, fault}
use Rattle.parts.specs.declared.Unread.TheVariants.{More, Bad}
use Rattle.requestline.specs.declared.RequestLine.{RequestLine}
use Rattle.statusline.specs.declared.StatusLine.{StatusLine}
use Rattle.heads.specs.Head.{Heads}
use Rattle.chunks.specs.Chunk.{ChunkSize}
use Rattle.agreement.specs.Places.{held}
use Rattle.agreement.specs.Known.{fields_in}
use Rattle.agreement.specs.Promises.{FaultAt}
use Rattle.writer.specs.declared.Unwritten.TheVariants.{Needs}
use Rattle.writer.specs.Promise.{Writing}
use Rattle.rowread.specs.declared.RowRead.{RowRead}
use Rattle.rowread.specs.declared.Stop.TheVariants as stops
use Rattle.rowread.specs.Row.{Row, Fitting, RowPromise}

-- What was known of a part of a start line is unchanged
abbrev pub SamePiece : Option Piece → Option Piece → Type 0
SamePiece (Some a) b = b ≡ Some a
SamePiece None b = Unit {0}

abbrev pub SameNumber : Option ℕ → Option ℕ → Type 0
SameNumber (Some a) b = b ≡ Some a
SameNumber None b = Unit {0}

pub record SameRequest (k l : RequestLine) : Type 0 where
  pub method : SamePiece k.method l.method
  pub target : SamePiece k.target l.target
  pub version : SameNumber k.version l.version

pub record SameStatus (k l : StatusLine) : Type 0 where
  pub version : SameNumber k.version l.version
  pub code : SameNumber k.code l.code
  pub reason : SamePiece k.reason l.reason

-- headers alone have no start line
abbrev pub NoLine : Unit {0} → Unit {0} → Type 0
NoLine k l = Unit {0}

-- An answer never changes when more bytes arrive: what a call told on s, and what it told (with primes) on s and more bytes, over as many
-- slots, which hold anything, such as what the first call left in them. Same is SameRequest, SameStatus or NoLine.
pub record HeadStays {K : Type 0} (Same : K → K → Type 0) (end end' : Passed) (line line' : K) (count count' : ℕ) (old' new new' : List ℕ) : Type 0 where
  -- complete stays complete with the same end and fields, and an error the same error at the same position, with the same fields, count and slots
  pub decided : (end ≡ Err More → ⊥) → (end' ≡ end) × (line' ≡ line) × (count' ≡ count) × (new' ≡ take (count * 4) new ++ drop (count * 4) old')
  -- what was known before the end was reached is unchanged
  pub known : Same line line'
  pub headers : (count ≤ count') × (take (count * 4) new' ≡ take (count * 4) new)

-- An error says where it lies: a call on s ended in the error x, and one was made (with primes) on the bytes z with the same settings, over as many
-- slots, which hold anything
pub record SaysWhere {K : Type 0} (r : Rules) (s : List ℕ) (x : Fault) (line : K) (count : ℕ) (new : List ℕ) (z : List ℕ) (end' : Passed) (line' : K) (count' : ℕ) (old' new' : List ℕ) : Type 0 where
  -- where z is the bytes before its position, or fewer, that call is incomplete
  pub before : (k : ℕ) → k ≤ x.position → z ≡ take k s → end' ≡ Err More
  -- any error but TooManyHeaders: where z has the byte at it too, and any bytes u behind that, it ends in this error, with the same fields, count and slots
  pub there : (x.error ≡ TooManyHeaders → ⊥) → (u : List ℕ) → z ≡ take (x.position + 1) s ++ u → (end' ≡ Err (Bad x)) × (line' ≡ line) × (count' ≡ count) × (new' ≡ take (count * 4) new ++ drop (count * 4) old')
  -- TooManyHeaders: where z is the bytes before the header that had no slot, or these and its first, that call has told the same fields, count
  -- and slots; the first does not count where values may go on over several lines, since without it the header before may not be over
  pub full : x.error ≡ TooManyHeaders → (k : ℕ) → k ≤ 1 → (k ≡ 0 → r.multiline_headers ≡ false) → z ≡ take (x.position + k) s → (line' ≡ line) × (count' ≡ count) × (new' ≡ take (count * 4) new ++ drop (count * 4) old')
  -- and where z has an empty line e in place of that header, it is complete with them
  pub begins : x.error ≡ TooManyHeaders → (e : List ℕ) → grammar.IsLineEnd r e → z ≡ take x.position s ++ e → (end' ≡ Ok (x.position + length e)) × (line' ≡ line) × (count' ≡ count) × (new' ≡ take (count * 4) new ++ drop (count * 4) old')

-- the same of the error of a chunk size line, at p
pub record SizeSaysWhere (s : List ℕ) (p : ℕ) (z : List ℕ) (r' : ChunkSize) : Type 0 where
  pub before : (k : ℕ) → k ≤ p → z ≡ take k s → r' ≡ Err More
  pub there : (u : List ℕ) → z ≡ take (p + 1) s ++ u → r' ≡ Err (Bad p)

-- What is told before the end, or with TooManyHeaders, is true of every head that these bytes may still become, whatever bytes u follow: of
-- its start line what is known (Agrees), and of its fields those in the slots, which are its first. Behind any other error none can come.
abbrev pub SoFar : {L K : Type 0} → (List ℕ → L → List Field → Type 0) → (List ℕ → K → L → Type 0) → List ℕ → K → ℕ → List ℕ → Type 0
SoFar {L} Head Agrees s line count new = (u w t : List ℕ) (l : L) (fs : List Field) → s ++ u ≡ w ++ t → Head w l fs → Agrees s line l × ((more : List Field) × (fs ≡ fields_in s count new ++ more))

-- a piece that is known holds these bytes, and a number that is known is this
abbrev pub PieceAgrees : List ℕ → Option Piece → List ℕ → Type 0
PieceAgrees s (Some a) w = held s a ≡ w
PieceAgrees s None w = Unit {0}

abbrev pub NumberAgrees : Option ℕ → ℕ → Type 0
NumberAgrees (Some a) n = a ≡ n
NumberAgrees None n = Unit {0}

pub record RequestAgrees (s : List ℕ) (k : RequestLine) (l : grammar.RequestLine) : Type 0 where
  pub method : PieceAgrees s k.method l.method
  pub target : PieceAgrees s k.target l.target
  pub version : NumberAgrees k.version l.version.minor

pub record StatusAgrees (s : List ℕ) (k : StatusLine) (l : grammar.StatusLine) : Type 0 where
  pub version : NumberAgrees k.version l.version.minor
  pub code : NumberAgrees k.code l.code
  pub reason : PieceAgrees s k.reason l.reason

-- More slots change no answer but TooManyHeaders: what a call told, and what it told (with primes) on the same bytes over at least as many
-- slots. Where there were too few, the start line is the same, and the headers that were given are the first of those given now.
pub record MoreSlots {K : Type 0} (end end' : Passed) (line line' : K) (count count' : ℕ) (old' new new' : List ℕ) : Type 0 where
  pub enough : ((p : ℕ) → end ≡ Err (Bad (fault TooManyHeaders p)) → ⊥) → (end' ≡ end) × (count' ≡ count) × (new' ≡ take (count * 4) new ++ drop (count * 4) old')
  pub known : line' ≡ line
  pub given : (count ≤ count') × (take (count * 4) new' ≡ take (count * 4) new)

-- As bytes arrive, only an incomplete chunk size line may become something else
abbrev pub ChunkStays : ChunkSize → ChunkSize → Type 0
ChunkStays r r' = (r ≡ Err More → ⊥) → r' ≡ r

-- One derivation: two heads that begin the same bytes are one head, and say the same
abbrev pub OneHead : {L : Type 0} → (List ℕ → L → List Field → Type 0) → Type 0
OneHead {L} Head = (v s w t : List ℕ) (l m : L) (fs gs : List Field) → v ++ s ≡ w ++ t → Head v l fs → Head w m gs → (v ≡ w) × (l ≡ m) × (fs ≡ gs)

-- and two chunk size lines are one, with the same size
abbrev pub OneChunk : Type 0
OneChunk = (v s w t : List ℕ) (m n : ℕ) → v ++ s ≡ w ++ t → IsChunkLine default v m → IsChunkLine default w n → (v ≡ w) × (m ≡ n)

-- Heads in a row: the same bytes are no two rows of heads
abbrev pub OneRow : {L : Type 0} → (List ℕ → L → List Field → Type 0) → Type 0
OneRow {L} Head = (v w : List ℕ) (hs gs : List (L × List Field)) (es ds : List ℕ) → Row Head 0 v hs es → Row Head 0 w gs ds → v ≡ w → (hs ≡ gs) × (es ≡ ds)

-- and the call that reads a row of heads, whose fields fit the slots and whose ends have room, reads all of them and no others: it
-- stops at the end of the input, the heads are those, in order, and their ends are in their places
abbrev pub ReadsRow : {L K : Type 0} → (List ℕ → L → List Field → Type 0) → (ℕ → List ℕ → Heads K) → Type 0
ReadsRow {L} Head read = (n : ℕ) (s slots old : List ℕ) (r : RowRead) (slots' new : List ℕ) (P : RowPromise Head read n s slots old r slots' new) (hs : List (L × List Field)) (es : List ℕ) → Row Head 0 s hs es → Fitting n hs → length hs ≤ length old →
    (r.stop ≡ stops.End) × (r.end ≡ length s) × (P.heads ≡ hs) × (r.count ≡ length hs) × (new ≡ es ++ drop (length es) old)

-- whatever bytes t follow the row, its heads are the first that are read, and their ends the first in their places
abbrev pub ReadsFirst : {L K : Type 0} → (List ℕ → L → List Field → Type 0) → (ℕ → List ℕ → Heads K) → Type 0
ReadsFirst {L} Head read = (n : ℕ) (v t slots old : List ℕ) (r : RowRead) (slots' new : List ℕ) (P : RowPromise Head read n (v ++ t) slots old r slots' new) (hs : List (L × List Field)) (es : List ℕ) → Row Head 0 v hs es → Fitting n hs → length hs ≤ length old →
    (length hs ≤ r.count) × (take (length hs) new ≡ es) × (take (length hs) P.heads ≡ hs)

-- What was read of a row stays read when more bytes arrive: what a call told on s, and what it told (with primes) on s and more bytes,
-- over as many slots and room for at least as many ends
pub record RowStays (r r' : RowRead) (new new' : List ℕ) : Type 0 where
  -- the ends that were in their places are the first of those that are now
  pub ends : (r.count ≤ r'.count) × (take r.count new' ≡ take r.count new)
  -- an error is the same error at the same position, behind the same heads
  pub wrong : (x : Fault) → r.stop ≡ stops.Bad x → (r'.stop ≡ stops.Bad x) × (r'.end ≡ r.end) × (r'.count ≡ r.count)

-- An error of a row lies where that of its head does: x is told of the whole input, and y is read, with n slots, on the bytes rest behind the
-- heads, which end at a position
pub record RowSaysWhere {K : Type 0} (rules : Rules) (n : ℕ) (read : List ℕ → Heads K) (end : ℕ) (rest : List ℕ) (x : Fault) : Type 0 where
  pub y : Fault
  pub same : x ≡ fault y.error (end + y.position)
  pub placed : FaultAt rules n read rest y

-- The plain form. What a call read completely can be written: with room for its form it is, and without it the writer's answer r tells
-- how much is needed
abbrev pub CanBeWritten : List ℕ → List ℕ → Writing → Type 0
CanBeWritten form out r = (length form ≤ length out → r ≡ Ok (length form)) × (length out < length form → r ≡ Err (Needs (length form)))

-- Says is how a call tells a start line, and told what it has told. A call on s was complete, the form of what it read was written, n
-- bytes, and a call (with primes) was made on z, which begins with these.
pub record ReadBack {L K : Type 0} (Says : List ℕ → K → L → Type 0) (told : List ℕ → K → L) (s : List ℕ) (line : K) (count : ℕ) (new : List ℕ) (n : ℕ) (z : List ℕ) (end' : Passed) (line' : K) (count' : ℕ) (new' : List ℕ) : Type 0 where
  -- the second call is complete where the writer stopped
  pub end : end' ≡ Ok n
  -- it tells the same start line and gives the same fields back, byte for byte
  pub says_again : Says z line' (told s line)
  pub line_again : told z line' ≡ told s line
  pub fields_again : fields_in z count' new' ≡ fields_in s count new

-- Plain of plain is plain: what was read back is written with the answer r into bytes that become again, and out had the first form
abbrev pub WrittenAgain : ℕ → List ℕ → Writing → List ℕ → Type 0
WrittenAgain n out r again = (r ≡ Ok n) × (take n again ≡ take n out)
