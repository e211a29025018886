-- Status codes of the UEFI Specification, Appendix D, at 64 bits.
use Rattle.std.specs.Prelude.{ℕ, ◌+◌, ◌^◌, Bool, not, ◌&&◌, List, [], ◌∷◌, ◌++◌, Some, None, codes, decimal, Option, find, ◌==◌, nat_le}
use Rattle.std.specs.Option.{option_map}

abbrev pub is_success : ℕ → Bool
is_success s = s == 0

-- errors have the highest bit set
abbrev pub is_error : ℕ → Bool
is_error s = nat_le (2 ^ 63) s

-- warnings have not, and are not 0
abbrev pub is_warning : ℕ → Bool
is_warning s = not (is_success s) && not (is_error s)

-- the k-th error
abbrev pub error_code : ℕ → ℕ
error_code k = 2 ^ 63 + k

abbrev pub success : ℕ
success = 0

abbrev pub warn_unknown_glyph : ℕ
warn_unknown_glyph = 1

abbrev pub warn_delete_failure : ℕ
warn_delete_failure = 2

abbrev pub warn_write_failure : ℕ
warn_write_failure = 3

abbrev pub warn_buffer_too_small : ℕ
warn_buffer_too_small = 4

abbrev pub warn_stale_data : ℕ
warn_stale_data = 5

abbrev pub warn_file_system : ℕ
warn_file_system = 6

abbrev pub warn_reset_required : ℕ
warn_reset_required = 7

abbrev pub load_error : ℕ
load_error = error_code 1

abbrev pub invalid_parameter : ℕ
invalid_parameter = error_code 2

abbrev pub unsupported : ℕ
unsupported = error_code 3

abbrev pub bad_buffer_size : ℕ
bad_buffer_size = error_code 4

abbrev pub buffer_too_small : ℕ
buffer_too_small = error_code 5

abbrev pub not_ready : ℕ
not_ready = error_code 6

abbrev pub device_error : ℕ
device_error = error_code 7

abbrev pub write_protected : ℕ
write_protected = error_code 8

abbrev pub out_of_resources : ℕ
out_of_resources = error_code 9

abbrev pub volume_corrupted : ℕ
volume_corrupted = error_code 10

abbrev pub volume_full : ℕ
volume_full = error_code 11

abbrev pub no_media : ℕ
no_media = error_code 12

abbrev pub media_changed : ℕ
media_changed = error_code 13

abbrev pub not_found : ℕ
not_found = error_code 14

abbrev pub access_denied : ℕ
access_denied = error_code 15

abbrev pub no_response : ℕ
no_response = error_code 16

abbrev pub no_mapping : ℕ
no_mapping = error_code 17

abbrev pub timeout : ℕ
timeout = error_code 18

abbrev pub not_started : ℕ
not_started = error_code 19

abbrev pub already_started : ℕ
already_started = error_code 20

abbrev pub aborted : ℕ
aborted = error_code 21

abbrev pub icmp_error : ℕ
icmp_error = error_code 22

abbrev pub tftp_error : ℕ
tftp_error = error_code 23

abbrev pub protocol_error : ℕ
protocol_error = error_code 24

abbrev pub incompatible_version : ℕ
incompatible_version = error_code 25

abbrev pub security_violation : ℕ
security_violation = error_code 26

abbrev pub crc_error : ℕ
crc_error = error_code 27

abbrev pub end_of_media : ℕ
end_of_media = error_code 28

abbrev pub end_of_file : ℕ
end_of_file = error_code 31

abbrev pub invalid_language : ℕ
invalid_language = error_code 32

abbrev pub compromised_data : ℕ
compromised_data = error_code 33

abbrev pub ip_address_conflict : ℕ
ip_address_conflict = error_code 34

abbrev pub http_error : ℕ
http_error = error_code 35

-- each code with its name, less the prefix EFI_
unfoldable pub appendix_d : List (ℕ × List ℕ)
appendix_d =
    (success, codes "SUCCESS") ∷
    (warn_unknown_glyph, codes "WARN_UNKNOWN_GLYPH") ∷
    (warn_delete_failure, codes "WARN_DELETE_FAILURE") ∷
    (warn_write_failure, codes "WARN_WRITE_FAILURE") ∷
    (warn_buffer_too_small, codes "WARN_BUFFER_TOO_SMALL") ∷
    (warn_stale_data, codes "WARN_STALE_DATA") ∷
    (warn_file_system, codes "WARN_FILE_SYSTEM") ∷
    (warn_reset_required, codes "WARN_RESET_REQUIRED") ∷
    (load_error, codes "LOAD_ERROR") ∷
    (invalid_parameter, codes "INVALID_PARAMETER") ∷
    (unsupported, codes "UNSUPPORTED") ∷
    (bad_buffer_size, codes "BAD_BUFFER_SIZE") ∷
    (buffer_too_small, codes "BUFFER_TOO_SMALL") ∷
    (not_ready, codes "NOT_READY") ∷
    (device_error, codes "DEVICE_ERROR") ∷
    (write_protected, codes "WRITE_PROTECTED") ∷
    (out_of_resources, codes "OUT_OF_RESOURCES") ∷
    (volume_corrupted, codes "VOLUME_CORRUPTED") ∷
    (volume_full, codes "VOLUME_FULL") ∷
    (no_media, codes "NO_MEDIA") ∷
    (media_changed, codes "MEDIA_CHANGED") ∷
    (not_found, codes "NOT_FOUND") ∷
    (access_denied, codes "ACCESS_DENIED") ∷
    (no_response, codes "NO_RESPONSE") ∷
    (no_mapping, codes "NO_MAPPING") ∷
    (timeout, codes "TIMEOUT") ∷
    (not_started, codes "NOT_STARTED") ∷
    (already_started, codes "ALREADY_STARTED") ∷
    (aborted, codes "ABORTED") ∷
    (icmp_error, codes "ICMP_ERROR") ∷
    (tftp_error, codes "TFTP_ERROR") ∷
    (protocol_error, codes "PROTOCOL_ERROR") ∷
    (incompatible_version, codes "INCOMPATIBLE_VERSION") ∷
    (security_violation, codes "SECURITY_VIOLATION") ∷
    (crc_error, codes "CRC_ERROR") ∷
    (end_of_media, codes "END_OF_MEDIA") ∷
    (end_of_file, codes "END_OF_FILE") ∷
    (invalid_language, codes "INVALID_LANGUAGE") ∷
    (compromised_data, codes "COMPROMISED_DATA") ∷
    (ip_address_conflict, codes "IP_ADDRESS_CONFLICT") ∷
    (http_error, codes "HTTP_ERROR") ∷
    []

-- the name that the table has for a number
abbrev pub status_name : ℕ → Option (List ℕ)
status_name s = option_map (λ row. row.1) (find (λ row. row.0 == s) appendix_d)

-- a status as text: its name, or its number where it has none
abbrev pub text_or : ℕ → Option (List ℕ) → List ℕ
text_or s (Some name) = name
text_or s None = codes "status " ++ decimal s

abbrev pub status_text : ℕ → List ℕ
status_text s = text_or s (status_name s)
