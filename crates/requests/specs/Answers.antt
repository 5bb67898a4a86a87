-- The bytes of an answer.
use Rattle.std.specs.Prelude.{ℕ, Bool, true, false, List, [], ◌∷◌, ◌++◌, length, codes, decimal, ◌==◌, if◌then◌else◌, Option, Some, None, ◌||◌}
use Rattle.requests.specs.Verdicts.{method_text}
use Rattle.requests.specs.declared.answer.Content.{Content}
use Rattle.requests.specs.declared.answer.Content.TheVariants.{Text, Json}
use Rattle.requests.specs.declared.status.Status.{Status}
use Rattle.requests.specs.declared.status.Status.TheVariants as statuses
use Rattle.requests.specs.declared.fixed.Method.{Method}
use Rattle.requests.specs.declared.fixed.FixedAnswer.{FixedAnswer}
use Rattle.requests.specs.declared.fixed.FixedAnswer.TheVariants.{BadRequest, HeadTooLarge, TransferEncoding, BadLength, LengthRequired, BodyTooLarge, NotFound, MethodNotAllowed, Ready, NoOrgId, BadTenant, ContentEncoding, ContentType}
use Rattle.accept.specs.declared.fault.CallFault.{CallFault}
use Rattle.accept.specs.declared.fault.CallFault.TheVariants as faults

abbrev pub crlf : List ℕ
crlf = 13 ∷ 10 ∷ []

abbrev pub code_of : Status → ℕ
code_of statuses.Ok = 200
code_of statuses.NoContent = 204
code_of statuses.BadRequest = 400
code_of statuses.Unauthorized = 401
code_of statuses.NotFound = 404
code_of statuses.MethodNotAllowed = 405
code_of statuses.LengthRequired = 411
code_of statuses.ContentTooLarge = 413
code_of statuses.UnsupportedMediaType = 415
code_of statuses.RequestHeaderFieldsTooLarge = 431
code_of statuses.InternalServerError = 500
code_of statuses.NotImplemented = 501
code_of statuses.ServiceUnavailable = 503
code_of statuses.InsufficientStorage = 507

abbrev pub reason_of : Status → List ℕ
reason_of statuses.Ok = codes "OK"
reason_of statuses.NoContent = codes "No Content"
reason_of statuses.BadRequest = codes "Bad Request"
reason_of statuses.Unauthorized = codes "Unauthorized"
reason_of statuses.NotFound = codes "Not Found"
reason_of statuses.MethodNotAllowed = codes "Method Not Allowed"
reason_of statuses.LengthRequired = codes "Length Required"
reason_of statuses.ContentTooLarge = codes "Content Too Large"
reason_of statuses.UnsupportedMediaType = codes "Unsupported Media Type"
reason_of statuses.RequestHeaderFieldsTooLarge = codes "Request Header Fields Too Large"
reason_of statuses.InternalServerError = codes "Internal Server Error"
reason_of statuses.NotImplemented = codes "Not Implemented"
reason_of statuses.ServiceUnavailable = codes "Service Unavailable"
reason_of statuses.InsufficientStorage = codes "Insufficient Storage"

unfoldable pub status_line : Status → List ℕ
status_line status = codes "HTTP/1.1 " ++ decimal
    (code_of status) ++ codes " " ++ reason_of status ++ crlf

unfoldable pub type_line : Content → List ℕ
type_line Text = codes "Content-Type: text/plain; charset=utf-8" ++ crlf
type_line Json = codes "Content-Type: application/json" ++ crlf

unfoldable pub length_line : ℕ → List ℕ
length_line n = codes "Content-Length: " ++ decimal n ++ crlf

unfoldable pub allow_line : Option Method → List ℕ
allow_line None = []
allow_line (Some method) = codes "Allow: " ++ method_text method ++ crlf

unfoldable pub last_lines : Bool → List ℕ
last_lines closes = (if closes then codes "Connection: close" ++ crlf else []) ++ crlf

-- the whole text of an answer; one of status 204 has no body
abbrev pub answer_text : Status → Content → Option Method → Bool → List ℕ → List ℕ
answer_text status content allow closes body =
    if code_of status == 204 then status_line status ++ last_lines closes
    else status_line status ++ type_line content ++ length_line
    (length body) ++ allow_line allow ++ last_lines closes
    ++ body

-- what is sent of a body: with status 204 nothing
abbrev pub sent_body : Status → List ℕ → List ℕ
sent_body status body = if code_of status == 204 then [] else body

abbrev pub status_of : FixedAnswer → Status
status_of BadRequest = statuses.BadRequest
status_of HeadTooLarge = statuses.RequestHeaderFieldsTooLarge
status_of TransferEncoding = statuses.NotImplemented
status_of BadLength = statuses.BadRequest
status_of LengthRequired = statuses.LengthRequired
status_of BodyTooLarge = statuses.ContentTooLarge
status_of NotFound = statuses.NotFound
status_of (MethodNotAllowed allow) = statuses.MethodNotAllowed
status_of Ready = statuses.Ok
status_of NoOrgId = statuses.Unauthorized
status_of BadTenant = statuses.BadRequest
status_of ContentEncoding = statuses.UnsupportedMediaType
status_of ContentType = statuses.UnsupportedMediaType

abbrev pub body_of : FixedAnswer → List ℕ
body_of BadRequest = codes "bad request"
body_of HeadTooLarge = codes "head too large"
body_of TransferEncoding = codes "transfer encoding is not supported"
body_of BadLength = codes "bad content length"
body_of LengthRequired = codes "length required"
body_of BodyTooLarge = codes "body too large"
body_of NotFound = codes "not found"
body_of (MethodNotAllowed allow) = codes "method not allowed"
body_of Ready = codes "ready"
body_of NoOrgId = codes "no org id"
body_of BadTenant = codes "bad tenant"
body_of ContentEncoding = codes "content encoding is not supported"
body_of ContentType = codes "content type must be application/json"

-- whether the connection ends after it, whatever the request asked for
abbrev pub always_closes : FixedAnswer → Bool
always_closes BadRequest = true
always_closes HeadTooLarge = true
always_closes TransferEncoding = true
always_closes BadLength = true
always_closes LengthRequired = true
always_closes BodyTooLarge = true
always_closes NotFound = false
always_closes (MethodNotAllowed allow) = false
always_closes Ready = false
always_closes NoOrgId = false
always_closes BadTenant = false
always_closes ContentEncoding = false
always_closes ContentType = false

abbrev pub allow_of : FixedAnswer → Option Method
allow_of BadRequest = None
allow_of HeadTooLarge = None
allow_of TransferEncoding = None
allow_of BadLength = None
allow_of LengthRequired = None
allow_of BodyTooLarge = None
allow_of NotFound = None
allow_of (MethodNotAllowed allow) = Some allow
allow_of Ready = None
allow_of NoOrgId = None
allow_of BadTenant = None
allow_of ContentEncoding = None
allow_of ContentType = None

-- the whole text of a fixed answer to a request that asks to close or not
abbrev pub fixed_text : FixedAnswer → Bool → List ℕ
fixed_text answer closes =
    answer_text (status_of answer) Text (allow_of answer) (always_closes answer || closes)
    (body_of answer)

-- what an answer of status 500 says
abbrev pub failure_body : CallFault → List ℕ
failure_body faults.Memory = codes "out of memory"
failure_body faults.PassClosed = codes "pass closed"
failure_body faults.InDoubt = codes "call in doubt"
failure_body faults.LogSpent = codes "log spent"

-- the whole text of an answer of status 500
unfoldable pub failure_text : CallFault → List ℕ
failure_text failure = answer_text statuses.InternalServerError Text None true
    (failure_body failure)

-- such a text, written out, by its length in digits and its body
abbrev pub written_failure : List ℕ → List ℕ → List ℕ
written_failure digits body = codes "HTTP/1.1 500 Internal Server Error" ++ crlf
    ++ codes "Content-Type: text/plain; charset=utf-8" ++ crlf ++ codes "Content-Length: " ++ digits ++ crlf
    ++ codes "Connection: close" ++ crlf ++ crlf ++ body

-- the text of a failure, written out
abbrev pub failure_bytes : CallFault → List ℕ
failure_bytes faults.Memory = written_failure (codes "13") (failure_body faults.Memory)
failure_bytes faults.PassClosed = written_failure (codes "11") (failure_body faults.PassClosed)
failure_bytes faults.InDoubt = written_failure (codes "13") (failure_body faults.InDoubt)
failure_bytes faults.LogSpent = written_failure (codes "9") (failure_body faults.LogSpent)
