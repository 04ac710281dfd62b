-- Examples of the RFCs, each derived under `strict`, with the fields that one expects; and what no example of theirs shows.
-- Assumes nothing.
use Rattle.std.specs.Prelude.{ℕ, refl, List, [], ◌∷◌, ◌++◌}
use Prim.Native.String.{String}
use Rattle.std.proofs.Common.{arith}
use Rattle.std.proofs.lemmas.Bool.{false≢true}
use Rattle.octets.specs.Class.{among, within, is_digit, is_blank, is_token, is_target, is_value}
use Rattle.octets.specs.Grammar as bytes
use Rattle.octets.proofs.Ties.{in_range}
use Rattle.rules.specs.Rules.{strict}
use Rattle.grammar.specs.Rows.{none, more, some}
use Rattle.grammar.specs.Fields.{Field}
use Rattle.grammar.specs.Fields as fields
use Rattle.grammar.specs.Message.{RequestLine, StatusLine, IsRequestHead, IsResponseHead}
use Rattle.grammar.specs.Message as grammar
use Rattle.grammar.specs.Chunked.{IsChunkLine}
use Rattle.grammar.specs.Chunked as chunked
use Rattle.leniency.specs.Text.{ascii}
use Rattle.leniency.specs.Builders.{a_token, a_target, a_code, the_end, a_field, a_request, a_response}

abbrev asks : String → String → RequestLine
asks method target = record { method = ascii method; target = ascii target; version = record { major = 1; minor = 1 } }

abbrev answers : ℕ → String → StatusLine
answers code reason = record { version = record { major = 1; minor = 1 }; code = code; reason = ascii reason }

abbrev field : String → String → Field
field name value = record { name = ascii name; value = ascii value }

-- RFC 9110, 3.9: a message exchange, the request
pub hello : IsRequestHead strict (ascii "GET /hello.txt HTTP/1.1\r\nUser-Agent: curl/7.64.1\r\nHost: www.example.com\r\nAccept-Language: en, mi\r\n\r\n") (asks "GET" "/hello.txt") (field "User-Agent" "curl/7.64.1" ∷ field "Host" "www.example.com" ∷ field "Accept-Language" "en, mi" ∷ [])
unfolding is_token is_target is_value is_blank is_digit within among
hello = a_request "GET" "/hello.txt" refl refl (a_field "User-Agent" "curl/7.64.1" refl refl (a_field "Host" "www.example.com" refl refl (a_field "Accept-Language" "en, mi" refl refl the_end)))

-- RFC 9110, 3.9: the response
pub hello_answer : IsResponseHead strict (ascii "HTTP/1.1 200 OK\r\nDate: Mon, 27 Jul 2009 12:28:53 GMT\r\nServer: Apache\r\nLast-Modified: Wed, 22 Jul 2009 19:15:56 GMT\r\nETag: \"34aa387-d-1568eb00\"\r\nAccept-Ranges: bytes\r\nContent-Length: 51\r\nVary: Accept-Encoding\r\nContent-Type: text/printable\r\n\r\n") (answers 200 "OK") (field "Date" "Mon, 27 Jul 2009 12:28:53 GMT" ∷ field "Server" "Apache" ∷ field "Last-Modified" "Wed, 22 Jul 2009 19:15:56 GMT" ∷ field "ETag" "\"34aa387-d-1568eb00\"" ∷ field "Accept-Ranges" "bytes" ∷ field "Content-Length" "51" ∷ field "Vary" "Accept-Encoding" ∷ field "Content-Type" "text/printable" ∷ [])
unfolding is_token is_target is_value is_blank is_digit within among
hello_answer = a_response 2 0 0 "OK" refl refl (a_field "Date" "Mon, 27 Jul 2009 12:28:53 GMT" refl refl (a_field "Server" "Apache" refl refl (a_field "Last-Modified" "Wed, 22 Jul 2009 19:15:56 GMT" refl refl (a_field "ETag" "\"34aa387-d-1568eb00\"" refl refl (a_field "Accept-Ranges" "bytes" refl refl (a_field "Content-Length" "51" refl refl (a_field "Vary" "Accept-Encoding" refl refl (a_field "Content-Type" "text/printable" refl refl the_end))))))))

-- RFC 9112, 3.2.1
pub origin_form : IsRequestHead strict (ascii "GET /where?q=now HTTP/1.1\r\nHost: www.example.org\r\n\r\n") (asks "GET" "/where?q=now") (field "Host" "www.example.org" ∷ [])
unfolding is_token is_target is_value is_blank is_digit within among
origin_form = a_request "GET" "/where?q=now" refl refl (a_field "Host" "www.example.org" refl refl the_end)

-- RFC 9112, 3.2.2
pub absolute_form : IsRequestHead strict (ascii "GET http://www.example.org/pub/WWW/TheProject.html HTTP/1.1\r\nHost: www.example.org\r\n\r\n") (asks "GET" "http://www.example.org/pub/WWW/TheProject.html") (field "Host" "www.example.org" ∷ [])
unfolding is_token is_target is_value is_blank is_digit within among
absolute_form = a_request "GET" "http://www.example.org/pub/WWW/TheProject.html" refl refl (a_field "Host" "www.example.org" refl refl the_end)

-- RFC 9112, 3.2.3
pub authority_form : IsRequestHead strict (ascii "CONNECT www.example.com:80 HTTP/1.1\r\nHost: www.example.com\r\n\r\n") (asks "CONNECT" "www.example.com:80") (field "Host" "www.example.com" ∷ [])
unfolding is_token is_target is_value is_blank is_digit within among
authority_form = a_request "CONNECT" "www.example.com:80" refl refl (a_field "Host" "www.example.com" refl refl the_end)

-- RFC 9112, 3.2.4
pub asterisk_form : IsRequestHead strict (ascii "OPTIONS * HTTP/1.1\r\nHost: www.example.org:8001\r\n\r\n") (asks "OPTIONS" "*") (field "Host" "www.example.org:8001" ∷ [])
unfolding is_token is_target is_value is_blank is_digit within among
asterisk_form = a_request "OPTIONS" "*" refl refl (a_field "Host" "www.example.org:8001" refl refl the_end)

-- RFC 9110, 7.8: another protocol is asked for
pub upgrade : IsRequestHead strict (ascii "GET /hello HTTP/1.1\r\nHost: www.example.com\r\nConnection: upgrade\r\nUpgrade: websocket, IRC/6.9, RTA/x11\r\n\r\n") (asks "GET" "/hello") (field "Host" "www.example.com" ∷ field "Connection" "upgrade" ∷ field "Upgrade" "websocket, IRC/6.9, RTA/x11" ∷ [])
unfolding is_token is_target is_value is_blank is_digit within among
upgrade = a_request "GET" "/hello" refl refl (a_field "Host" "www.example.com" refl refl (a_field "Connection" "upgrade" refl refl (a_field "Upgrade" "websocket, IRC/6.9, RTA/x11" refl refl the_end)))

-- RFC 9110, 7.8: and granted
pub upgrade_answer : IsResponseHead strict (ascii "HTTP/1.1 101 Switching Protocols\r\nConnection: upgrade\r\nUpgrade: websocket\r\n\r\n") (answers 101 "Switching Protocols") (field "Connection" "upgrade" ∷ field "Upgrade" "websocket" ∷ [])
unfolding is_token is_target is_value is_blank is_digit within among
upgrade_answer = a_response 1 0 1 "Switching Protocols" refl refl (a_field "Connection" "upgrade" refl refl (a_field "Upgrade" "websocket" refl refl the_end))

-- RFC 9110, 9.3.6: a tunnel, with credentials
pub connect : IsRequestHead strict (ascii "CONNECT server.example.com:80 HTTP/1.1\r\nHost: server.example.com:80\r\nProxy-Authorization: basic aGVsbG86d29ybGQ=\r\n\r\n") (asks "CONNECT" "server.example.com:80") (field "Host" "server.example.com:80" ∷ field "Proxy-Authorization" "basic aGVsbG86d29ybGQ=" ∷ [])
unfolding is_token is_target is_value is_blank is_digit within among
connect = a_request "CONNECT" "server.example.com:80" refl refl (a_field "Host" "server.example.com:80" refl refl (a_field "Proxy-Authorization" "basic aGVsbG86d29ybGQ=" refl refl the_end))

-- RFC 9110, 10.1.1
pub expect : IsRequestHead strict (ascii "PUT /somewhere/fun HTTP/1.1\r\nHost: origin.example.com\r\nContent-Type: video/h264\r\nContent-Length: 1234567890987\r\nExpect: 100-continue\r\n\r\n") (asks "PUT" "/somewhere/fun") (field "Host" "origin.example.com" ∷ field "Content-Type" "video/h264" ∷ field "Content-Length" "1234567890987" ∷ field "Expect" "100-continue" ∷ [])
unfolding is_token is_target is_value is_blank is_digit within among
expect = a_request "PUT" "/somewhere/fun" refl refl (a_field "Host" "origin.example.com" refl refl (a_field "Content-Type" "video/h264" refl refl (a_field "Content-Length" "1234567890987" refl refl (a_field "Expect" "100-continue" refl refl the_end))))

-- RFC 9110, 15.3.7
pub partial : IsResponseHead strict (ascii "HTTP/1.1 206 Partial Content\r\nDate: Wed, 15 Nov 1995 06:25:24 GMT\r\nLast-Modified: Wed, 15 Nov 1995 04:58:08 GMT\r\nContent-Range: bytes 21010-47021/47022\r\nContent-Length: 26012\r\nContent-Type: image/gif\r\n\r\n") (answers 206 "Partial Content") (field "Date" "Wed, 15 Nov 1995 06:25:24 GMT" ∷ field "Last-Modified" "Wed, 15 Nov 1995 04:58:08 GMT" ∷ field "Content-Range" "bytes 21010-47021/47022" ∷ field "Content-Length" "26012" ∷ field "Content-Type" "image/gif" ∷ [])
unfolding is_token is_target is_value is_blank is_digit within among
partial = a_response 2 0 6 "Partial Content" refl refl (a_field "Date" "Wed, 15 Nov 1995 06:25:24 GMT" refl refl (a_field "Last-Modified" "Wed, 15 Nov 1995 04:58:08 GMT" refl refl (a_field "Content-Range" "bytes 21010-47021/47022" refl refl (a_field "Content-Length" "26012" refl refl (a_field "Content-Type" "image/gif" refl refl the_end)))))

-- RFC 9110, 15.5.22
pub required : IsResponseHead strict (ascii "HTTP/1.1 426 Upgrade Required\r\nUpgrade: HTTP/3.0\r\nConnection: Upgrade\r\nContent-Length: 53\r\nContent-Type: text/printable\r\n\r\n") (answers 426 "Upgrade Required") (field "Upgrade" "HTTP/3.0" ∷ field "Connection" "Upgrade" ∷ field "Content-Length" "53" ∷ field "Content-Type" "text/printable" ∷ [])
unfolding is_token is_target is_value is_blank is_digit within among
required = a_response 4 2 6 "Upgrade Required" refl refl (a_field "Upgrade" "HTTP/3.0" refl refl (a_field "Connection" "Upgrade" refl refl (a_field "Content-Length" "53" refl refl (a_field "Content-Type" "text/printable" refl refl the_end))))

-- what the examples do not show: a version that is not known, and a field with no value
pub other_version : IsRequestHead strict (ascii "GET / HTTP/2.3\r\nHost:\r\n\r\n") (record { method = ascii "GET"; target = ascii "/"; version = record { major = 2; minor = 3 } }) (field "Host" "" ∷ [])
unfolding is_token is_digit within among
other_version =
    grammar.head.message grammar.IsEmptyLines.none
    (grammar.IsRequestLine.line (a_token "GET" refl) grammar.IsDelimiter.one (a_target "/" refl) grammar.IsDelimiter.one (grammar.HTTP_version.other {a = 0x32} {b = 0x33} refl (in_range 0x30 0x39 0x32 refl) (in_range 0x30 0x39 0x33 refl))) grammar.crlf
    (grammar.IsHeaderBlock.field grammar.IsBeforeFirstName.nothing (grammar.IsFieldLine.line (a_token "Host" refl) grammar.IsBehindName.nothing grammar.IsAroundValue.none (grammar.IsValueLines.one fields.IsFieldValue.none) grammar.IsAroundValue.none) grammar.crlf (λ t. absurd (false≢true t)) the_end)

-- a reason and a value with bytes from 0x80 on; in the value a tab stands between two of them
abbrev accents : List ℕ
accents = 0xE9 ∷ 0x09 ∷ 0xE8 ∷ []

pub obsolete_text : IsResponseHead strict (ascii "HTTP/1.1 404 " ++ (0xE9 ∷ []) ++ ascii "\r\nA:\t" ++ accents ++ ascii " \r\n\r\n") (record { version = record { major = 1; minor = 1 }; code = 404; reason = 0xE9 ∷ [] }) (record { name = ascii "A"; value = accents } ∷ [])
unfolding is_token is_digit within among
obsolete_text =
    grammar.head.message grammar.IsEmptyLines.none
    (grammar.IsStatusLine.reason grammar.one_one grammar.IsDelimiter.one (a_code 4 0 4 refl) grammar.IsDelimiter.one (grammar.IsReasonPhrase.whole refl (some (bytes.IsText.field (bytes.obsolete (in_range 0x80 0xFF 0xE9 refl))) none)) (λ t. absurd (false≢true t))) grammar.crlf
    (grammar.IsHeaderBlock.field grammar.IsBeforeFirstName.nothing
    (grammar.IsFieldLine.line (a_token "A" refl) grammar.IsBehindName.nothing (grammar.IsAroundValue.more (bytes.IsBlank.tab refl) grammar.IsAroundValue.none)
    (grammar.IsValueLines.one (fields.IsFieldValue.more (fields.IsFieldContent.more (bytes.obsolete (in_range 0x80 0xFF 0xE9 refl)) (some (bytes.IsText.white (bytes.IsBlank.tab refl)) none) (bytes.obsolete (in_range 0x80 0xFF 0xE8 refl))) fields.IsFieldValue.none))
    (grammar.IsAroundValue.more (bytes.IsBlank.space refl) grammar.IsAroundValue.none)) grammar.crlf (λ t. absurd (false≢true t)) the_end)

-- a chunk of five bytes with two extensions: a quoted string with a sharp sign and an escaped quotation mark, and a token among blanks
pub extensions : IsChunkLine strict (ascii "5;a=\"b#\\\"c\";d = e\r\n") 5
unfolding is_token is_digit within among
extensions =
    chunked.IsChunkLine.line (chunked.IsChunkSize.digits (chunked.IsHexadecimal.more chunked.IsHexadecimal.none (bytes.HEXDIG.digit (in_range 0x30 0x39 0x35 refl))) (omega arith) (λ t. absurd (false≢true t)))
    (chunked.IsBehindSize.extension
    (chunked.IsChunkExt.value none none (a_token "a" refl) none none
    (chunked.IsChunkExtVal.string
    (fields.IsQuotedString.marks
    (fields.IsQuoted.unescaped (fields.IsQdtext.behind_backslash (in_range 0x5D 0x7E 0x62 refl))
    (fields.IsQuoted.unescaped (fields.IsQdtext.before_backslash (in_range 0x23 0x5B 0x23 refl))
    (fields.IsQuoted.escaped (fields.IsQuotedPair.pair (bytes.IsText.field (bytes.visible (in_range 0x21 0x7E 0x22 refl))))
    (fields.IsQuoted.unescaped (fields.IsQdtext.behind_backslash (in_range 0x5D 0x7E 0x63 refl)) fields.IsQuoted.none))))))
    (chunked.IsChunkExt.value none none (a_token "d" refl) (more (bytes.IsBlank.space refl) none) (more (bytes.IsBlank.space refl) none) (chunked.IsChunkExtVal.word (a_token "e" refl)) chunked.IsChunkExt.none)))
